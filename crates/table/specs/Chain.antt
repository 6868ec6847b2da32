-- Cells in chains: the state of a table, what it means, and what holds of it.
use Rattle.std.specs.Prelude.{◌≡◌, ℕ, zero, suc, ◌%◌, ◌≤◌, min, Bool, true, false, cond, List, [], ◌∷◌, length, is_some, Some, None, Option, ◌==◌, nat_lt}
use Rattle.std.specs.List.{slice_get}
use Rattle.table.specs.declared.cell.Cell.{Cell}
use Rattle.table.specs.declared.cell.Entry.{Entry}
use Rattle.links.specs.declared.Link.{Link}
use Rattle.links.specs.Links.{goes_to, most, nowhere}
use Rattle.links.specs.Places.{is, first, has, after, distinct, count}

-- ---- the state
-- the cells and heads as they lie, how many cells were ever used, the first free one of these, how many are held
pub record State (A B : Type 0) : Type 0 where
  pub cs : List (Cell A B)
  pub hs : List Link
  pub used : ℕ
  pub free : Link
  pub held : ℕ

-- how many cells can be held: those lent, as far as a link reaches, and none without a head
abbrev pub capacity_of : ℕ → ℕ → ℕ
capacity_of cells heads = cond (heads == 0) 0 (min cells most)

-- and of a state
abbrev pub capacity : {A B : Type 0} → State A B → ℕ
capacity s = capacity_of (length s.cs) (length s.hs)

-- ---- what stands at a place
-- the link of a cell as it lies
abbrev pub chain_in : {A B : Type 0} → Option (Cell A B) → Link
chain_in None = nowhere
chain_in (Some c) = c.chain

-- where the link of a cell leads
abbrev pub link_in : {A B : Type 0} → Option (Cell A B) → Option ℕ
link_in None = None
link_in (Some c) = goes_to c.chain

-- the chain in which a cell stands: that of its hash if held, else n, the chain of the free cells
abbrev pub spot_in : {A B : Type 0} → ℕ → Option (Cell A B) → Option ℕ
spot_in n None = None
spot_in n (Some c) = Some (cond c.held (c.entry.hash % n) n)

-- the entry of a cell, if it is marked as held
abbrev pub entry_in : {A B : Type 0} → Option (Cell A B) → Option (Entry A B)
entry_in None = None
entry_in (Some c) = cond c.held (Some c.entry) None

-- where the link of cell j leads
abbrev pub link_of : {A B : Type 0} → List (Cell A B) → ℕ → Option ℕ
link_of cs j = link_in (slice_get cs j)

-- and of cell j of a state
abbrev pub link : {A B : Type 0} → State A B → ℕ → Option ℕ
link s j = link_of s.cs j

-- the chain in which cell j stands; a cell never used is in none
abbrev pub spot : {A B : Type 0} → State A B → ℕ → Option ℕ
spot s j = cond (nat_lt j s.used) (spot_in (length s.hs) (slice_get s.cs j)) None

-- what cell j holds: the meaning; a cell never used holds nothing, whatever its mark
abbrev pub entry_at : {A B : Type 0} → State A B → ℕ → Option (Entry A B)
entry_at s j = cond (nat_lt j s.used) (entry_in (slice_get s.cs j)) None

-- whether cell j is held
abbrev pub live : {A B : Type 0} → State A B → ℕ → Bool
live s j = is_some (entry_at s j)

-- where a head leads
abbrev pub head_in : Option Link → Option ℕ
head_in None = None
head_in (Some l) = goes_to l

-- the first cell of chain b; none past the last head
abbrev pub head_of : List Link → ℕ → Option ℕ
head_of hs b = head_in (slice_get hs b)

-- the first cell of the chain of a hash
abbrev pub first_of : {A B : Type 0} → State A B → ℕ → Option ℕ
first_of s hash = head_of s.hs (hash % length s.hs)

-- the start of chain b, where chain n, past the last head, has the free cells
abbrev pub head_at : {A B : Type 0} → State A B → ℕ → Option ℕ
head_at s b = cond (b == length s.hs) (goes_to s.free) (head_of s.hs b)

-- whether a cell's key, held or not, passes for k
abbrev pub key_in : {A B : Type 0} → (A → A → Bool) → A → Option (Cell A B) → Bool
key_in alike k None = false
key_in alike k (Some c) = alike c.entry.key k

-- and that of cell j
abbrev pub key_of : {A B : Type 0} → (A → A → Bool) → List (Cell A B) → A → ℕ → Bool
key_of alike cs k j = key_in alike k (slice_get cs j)

-- ---- the walk along the links
-- at most f cells, from h on
abbrev pub walk : (ℕ → Option ℕ) → ℕ → Option ℕ → List ℕ
walk lk zero h = []
walk lk (suc f) None = []
walk lk (suc f) (Some i) = i ∷ walk lk f (lk i)

-- xs is a chain: it starts at h, goes along the links, and has the cells of mem, each once
pub record Chain (lk : ℕ → Option ℕ) (h : Option ℕ) (mem : ℕ → Bool) (xs : List ℕ) : Type 0 where
  pub holds : (j : ℕ) → mem j ≡ has xs j
  pub links : (j : ℕ) → has xs j ≡ true → lk j ≡ after xs j
  pub apart : distinct xs ≡ true
  pub starts : h ≡ first xs

-- the cells of chain b, in order
abbrev pub chain : {A B : Type 0} → State A B → ℕ → List ℕ
chain s b = walk (link s) (length s.cs) (head_at s b)

-- what making gives and each call keeps
pub record Sound {A B : Type 0} (s : State A B) : Type 0 where
  pub chains : (b : ℕ) → Chain (link s) (head_at s b) (λ j. is (spot s j) b) (chain s b)
  pub size : s.used ≤ capacity s
  pub total : s.held ≡ count (live s) (capacity s)

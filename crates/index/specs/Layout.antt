-- How the memory lies: what a correct index may choose, and what is certain of it whatever it chooses.
use Rattle.std.specs.Prelude.{◌≡◌, ℕ, ◌%◌, ◌<◌, ◌≤◌, Bool, true, cond, not, length, is_some, Some, None, ◌==◌, nat_lt}
use Rattle.table.specs.declared.cell.Entry.{Entry}
use Rattle.links.specs.Places.{has, distinct}
use Rattle.table.specs.Chain.{State, capacity, chain, entry_at}

-- whether cell j is free: given up, and so in the chain past the last head, or never used
abbrev pub free_at : {A B : Type 0} → State A B → ℕ → Bool
free_at s j = cond (nat_lt j s.used) (has (chain s (length s.hs)) j) (nat_lt j (capacity s))

-- each cell is held or free, and never both
abbrev pub HeldOrFree : {A B : Type 0} → State A B → Type 0
HeldOrFree s = (j : ℕ) → j < capacity s → free_at s j ≡ not (is_some (entry_at s j))

-- each held cell stands in the chain of its hash and in no other
abbrev pub InItsChain : {A B : Type 0} → State A B → Type 0
InItsChain {A} {B} s = (j : ℕ) (e : Entry A B) → entry_at s j ≡ Some e → (b : ℕ) → has (chain s b) j ≡ (b == e.hash % length s.hs)

-- and only held cells stand in the chain of a head
abbrev pub OnlyHeld : {A B : Type 0} → State A B → Type 0
OnlyHeld s = (j b : ℕ) → b < length s.hs → has (chain s b) j ≡ true → is_some (entry_at s j) ≡ true

-- what is certain of the memory
pub record Layout {A B : Type 0} (s : State A B) : Type 0 where
  pub stands : InItsChain s
  pub only : OnlyHeld s
  pub once : (b : ℕ) → distinct (chain s b) ≡ true
  pub either : HeldOrFree s
  pub beyond : (j : ℕ) → capacity s ≤ j → entry_at s j ≡ None

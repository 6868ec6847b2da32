-- The state stays sound when a cell is taken, given up or renewed, and what each cell then holds.
use Rattle.std.proofs.Common.{◌≡◌, ℕ, ◌+◌, ◌-◌, ◌%◌, ◌<◌, ◌≤◌, Bool, true, false, cond, eqb, ltb, List, [], ◌∷◌, length, set, is_some, Some, None, Option, sym, refl, ap, ◌∙◌, inl, inr, arith, length-set}
use mathlib.Core.Logic.{∥∥₁_elim}
use native.Mathlib.Bridge as order
use base.Stored.{Coded-set, coded_ℕ, coded_bool, coded_list, coded_via}
use Rattle.std.specs.List.{slice_get}
use Rattle.std.proofs.lemmas.Bool.Decides.{nat_tests}
use Rattle.std.proofs.lemmas.Bool.{cases_eq, cases_Bool, eqb-true, lt-ltb, ltb-true}
use Rattle.table.specs.declared.cell.Cell.{Cell}
use Rattle.table.specs.declared.cell.Entry.{Entry}
use Rattle.links.specs.declared.Link.{Link}
use Rattle.links.specs.Links.{most, goes_to, to_place}
use Rattle.links.specs.Places.{is, pick, first, has, before, count}
use Rattle.table.specs.Chain.{State, capacity_of, capacity, link_in, spot_in, entry_in, link, spot, entry_at, live, head_in, head_of, head_at, Chain, chain, Sound}
use Rattle.table.specs.Edits.{edited_at, chain_to, filled, emptied, link_or, join_state, freed, part_state, renew_state}
use Rattle.links.proofs.Orders
use Rattle.table.proofs.Memory
use Rattle.table.proofs.Chains

-- ---- a state is sound in one way only, so that the fact comes out of a truncation
listed : Option ℕ → List ℕ
listed None = []
listed (Some i) = i ∷ []

listed_inj : (x y : Option ℕ) → listed x ≡ listed y → x ≡ y
unfolding listed
listed_inj None None e = refl
listed_inj None (Some j) e = cc
listed_inj (Some i) None e = cc
listed_inj (Some i) (Some j) e = cc

option_set : (x y : Option ℕ) → IsProp (x ≡ y)
option_set = Coded-set (coded_via (coded_list coded_ℕ) listed listed_inj)

chain_prop : (lk : ℕ → Option ℕ) (h : Option ℕ) (mem : ℕ → Bool) (xs : List ℕ) → IsProp (Chain lk h mem xs)
chain_prop lk h mem xs a b = λ i. record {
  holds = λ j. Coded-set coded_bool _ _ (a.holds j) (b.holds j) i;
  links = λ j t. option_set _ _ (a.links j t) (b.links j t) i;
  apart = Coded-set coded_bool _ _ a.apart b.apart i;
  starts = option_set _ _ a.starts b.starts i;
}

-- ---- sizes
pub mod_below : (a n : ℕ) → 0 < n → a % n < n
mod_below a n h = omega arith

pub ltb_next : (j u : ℕ) → (j ≡ u → ⊥) → ltb j (u + 1) ≡ ltb j u
ltb_next j u n = grind (arith, nat_tests)

pub capacity_cells : (n m : ℕ) → capacity_of n m ≤ n
capacity_cells n m = elim (cases_Bool (eqb m 0)) [ inl t ↦ rw t (omega arith) | inr t ↦ rw t (omega arith) ]

pub capacity_most : (n m : ℕ) → capacity_of n m ≤ most
capacity_most n m = elim (cases_Bool (eqb m 0)) [ inl t ↦ rw t (omega arith) | inr t ↦ rw t (omega arith) ]

-- where a cell can be held a head is lent
pub capacity_heads : (n m i : ℕ) → i < capacity_of n m → 0 < m
capacity_heads n m i h = elim (cases_eq m 0) [
  | inl q ↦ let t : eqb m 0 ≡ true = grind (arith, nat_tests) in let z : i < 0 = rw t at h in absurd (omega arith)
  | inr d ↦ omega arith
]

pub capacity_same : (n m n' m' : ℕ) → n' ≡ n → m' ≡ m → capacity_of n' m' ≡ capacity_of n m
capacity_same n m n' m' p q = ap (λ (x : ℕ). capacity_of x m') p ∙ ap (capacity_of n) q

-- ---- links
pub goes_back : (i : ℕ) → i < most → goes_to (to_place i) ≡ Some i
goes_back i l = let z : eqb i most ≡ false = grind (arith, nat_tests) in rw z

or_head : (o : Option Link) → goes_to (link_or o) ≡ head_in o
or_head None = refl
or_head (Some l) = refl

-- a head written
pub head_set : (hs : List Link) (b : ℕ) (v : Link) → b < length hs → (c : ℕ) → head_of (set hs b v) c ≡ cond (eqb c b) (goes_to v) (head_of hs c)
head_set hs b v l c = ap head_in (Memory.nth_set hs b v c l) ∙ elim (cases_Bool (eqb c b)) [ inl z ↦ rw z | inr z ↦ rw z ]

module _ {A B : Type 0} where
  sound_prop : (s : State A B) → IsProp (Sound s)
  sound_prop s a b = λ i. record {
    chains = λ c. chain_prop _ _ _ _ (a.chains c) (b.chains c) i;
    size = le_prop a.size b.size i;
    total = Coded-set coded_ℕ _ _ a.total b.total i;
  }
    where
      le_prop : IsProp (s.used ≤ capacity s)
      le_prop = order.le_prop

  pub out : (s : State A B) → ∥ Sound s ∥₁ → Sound s
  out s t = ∥∥₁_elim t (sound_prop s) (λ x. x)

  -- ---- where a cell stands
  pub spot_used : (s : State A B) (j b : ℕ) → is (spot s j) b ≡ true → j < s.used
  spot_used s j b e = elim (cases_Bool (ltb j s.used)) [
    | inl t ↦ ltb-true j s.used t
    | inr t ↦ absurd (Orders.both_ways (rw t) e)
  ]

  pub spot_within : (s : State A B) → s.used ≤ capacity s → (j b : ℕ) → is (spot s j) b ≡ true → j < length s.cs
  spot_within s l j b e = let k = spot_used s j b e in let z = capacity_cells (length s.cs) (length s.hs) in omega arith

  pub sound_from : (s : State A B) → s.used ≤ capacity s → s.held ≡ count (live s) (capacity s) → ((b : ℕ) → Chains.SomeChain (link s) (head_at s b) (λ j. is (spot s j) b)) → Sound s
  sound_from s l t f = record {
    chains = λ b. Chains.settled (link s) (head_at s b) (λ j. is (spot s j) b) (length s.cs) (λ j q. spot_within s l j b q) (f b);
    size = l;
    total = t;
  }

  -- ---- a cell's spot and what it holds
  pub held_spot : (s : State A B) (j : ℕ) (e : Entry A B) → entry_at s j ≡ Some e → spot s j ≡ Some (e.hash % length s.hs)
  held_spot s j e h = elim (cases_Bool (ltb j s.used)) [
    | inl t ↦ rw t (go (slice_get s.cs j) (rw t at h))
    | inr t ↦ let z : None ≡ Some e = rw t at h in let y : ◌≡◌ {A = ℕ} 0 1 = cc in absurd (omega arith)
  ]
    where
      go : (o : Option (Cell A B)) → entry_in o ≡ Some e → spot_in (length s.hs) o ≡ Some (e.hash % length s.hs)
      go None h = let y : ◌≡◌ {A = ℕ} 0 1 = cc in absurd (omega arith)
      go (Some c) h = elim (cases_Bool c.held) [
        | inl t ↦ let q : Some c.entry ≡ Some e = rw t at h in let r : c.entry ≡ e = cc in rw t (ap (λ (x : Entry A B). Some (x.hash % length s.hs)) r)
        | inr t ↦ let z : None ≡ Some e = rw t at h in let y : ◌≡◌ {A = ℕ} 0 1 = cc in absurd (omega arith)
      ]

  -- a free cell holds nothing
  pub free_entry : (s : State A B) → 0 < length s.hs → (j : ℕ) → spot s j ≡ Some (length s.hs) → entry_at s j ≡ None
  free_entry s n j h = elim (cases_Bool (ltb j s.used)) [
    | inl t ↦ rw t (go (slice_get s.cs j) (rw t at h))
    | inr t ↦ rw t
  ]
    where
      go : (o : Option (Cell A B)) → spot_in (length s.hs) o ≡ Some (length s.hs) → entry_in o ≡ None
      go None h = refl
      go (Some c) h = elim (cases_Bool c.held) [
        | inl t ↦
            let q : Some (c.entry.hash % length s.hs) ≡ Some (length s.hs) = rw t at h in
            let r : c.entry.hash % length s.hs ≡ length s.hs = cc in
            let m = mod_below c.entry.hash (length s.hs) n in absurd (omega arith)
        | inr t ↦ rw t
      ]

  -- a cell in the chain of a head holds an entry
  pub chain_entry : (s : State A B) (j b : ℕ) → is (spot s j) b ≡ true → b < length s.hs → (e : Entry A B) × (entry_at s j ≡ Some e)
  chain_entry s j b h l = elim (cases_Bool (ltb j s.used)) [
    | inl t ↦ more t (go (slice_get s.cs j) (rw t at h))
    | inr t ↦ absurd (Orders.both_ways (rw t) h)
  ]
    where
      go : (o : Option (Cell A B)) → is (spot_in (length s.hs) o) b ≡ true → (e : Entry A B) × (entry_in o ≡ Some e)
      go None h = absurd (Orders.both_ways refl h)
      go (Some c) h = elim (cases_Bool c.held) [
        | inl t ↦ (c.entry, rw t)
        | inr t ↦ let q : eqb b (length s.hs) ≡ true = rw t at h in let r = eqb-true b (length s.hs) q in absurd (omega arith)
      ]

      more : ltb j s.used ≡ true → (e : Entry A B) × (entry_in (slice_get s.cs j) ≡ Some e) → (e : Entry A B) × (entry_at s j ≡ Some e)
      more t r = (r.0, rw t r.1)

  -- ---- what stands at j after a whole write at i
  at_set : {Y : Type 0} (F : Option (Cell A B) → Option Y) (cs : List (Cell A B)) (u w i : ℕ) (v : Cell A B) → i < length cs → i < u → ((j : ℕ) → (j ≡ i → ⊥) → ltb j u ≡ ltb j w) → (j : ℕ) → cond (ltb j u) (F (slice_get (set cs i v) j)) None ≡ cond (eqb j i) (F (Some v)) (cond (ltb j w) (F (slice_get cs j)) None)
  at_set F cs u w i v l k h j =
      ap (λ (o : Option (Cell A B)). cond (ltb j u) (F o) None) (Memory.nth_set cs i v j l) ∙ elim (cases_eq j i) [
        | inl q ↦ let z : eqb j i ≡ true = grind (arith, nat_tests) in let t : ltb j u ≡ true = lt-ltb j u (omega arith) in rw (z, t)
        | inr n ↦ let z : eqb j i ≡ false = grind (arith, nat_tests) in let t = h j n in rw (z, t)
      ]

  link_set : (cs : List (Cell A B)) (i : ℕ) (v : Cell A B) → i < length cs → (j : ℕ) → link_in (slice_get (set cs i v) j) ≡ cond (eqb j i) (goes_to v.chain) (link_in (slice_get cs j))
  link_set cs i v l j = ap link_in (Memory.nth_set cs i v j l) ∙ elim (cases_Bool (eqb j i)) [ inl z ↦ rw z | inr z ↦ rw z ]

  live_set : (i : ℕ) (e : Option (Entry A B)) (f g : ℕ → Option (Entry A B)) → ((j : ℕ) → g j ≡ cond (eqb j i) e (f j)) → (j : ℕ) → is_some (g j) ≡ cond (eqb j i) (is_some e) (is_some (f j))
  live_set i e f g h j = ap is_some (h j) ∙ elim (cases_Bool (eqb j i)) [ inl t ↦ rw t | inr t ↦ rw t ]

  -- ---- a cell joins
  pub joined_entries : (s : State A B) (u : ℕ) (f : Link) (i : ℕ) (e : Entry A B) → i < length s.cs → i < u → ((j : ℕ) → (j ≡ i → ⊥) → ltb j u ≡ ltb j s.used) → (j : ℕ) → entry_at (join_state (freed s u f) i e) j ≡ cond (eqb j i) (Some e) (entry_at s j)
  joined_entries s u f i e l k h j = at_set entry_in s.cs u s.used i (filled e (link_or (slice_get s.hs (e.hash % length s.hs)))) l k h j

  pub join_sound : (s : State A B) (u : ℕ) (f : Link) (i : ℕ) (e : Entry A B) → Sound s
      → i < u → u ≤ capacity s
      → ((j : ℕ) → (j ≡ i → ⊥) → ltb j u ≡ ltb j s.used)
      → entry_at s i ≡ None
      → is (spot s i) (e.hash % length s.hs) ≡ false
      → ((c : ℕ) → is (spot s i) c ≡ true → None ≡ before (chain s c) i)
      → ((c : ℕ) → cond (eqb c (length s.hs)) (goes_to f) (head_of s.hs c) ≡ cond (is (spot s i) c) (link s i) (head_at s c))
      → Sound (join_state (freed s u f) i e)
  join_sound s u f i e h k m w o out pred heads =
      sound_from t (let z = cap in omega arith) total
      (Chains.moved (link s) (link t) (head_at s) (head_at t) (spot s) (spot t) (chain s) i b None h.chains out pred (λ j q. absurd (Orders.both_ways refl q)) spots links heads')
    where
      b : ℕ
      b = e.hash % length s.hs

      t : State A B
      t = join_state (freed s u f) i e

      cap : capacity t ≡ capacity s
      cap = capacity_same (length s.cs) (length s.hs) (length t.cs) (length t.hs) (length-set s.cs i (filled e (link_or (slice_get s.hs b)))) (length-set s.hs b (to_place i))

      l : i < length s.cs
      l = let z = capacity_cells (length s.cs) (length s.hs) in omega arith

      small : i < most
      small = let z = capacity_most (length s.cs) (length s.hs) in omega arith

      n : 0 < length s.hs
      n = capacity_heads (length s.cs) (length s.hs) i (omega arith)

      b_below : b < length s.hs
      b_below = mod_below e.hash (length s.hs) n

      b_not : eqb b (length s.hs) ≡ false
      b_not = let z = b_below in grind (arith, nat_tests)

      spots : (j : ℕ) → spot t j ≡ cond (eqb j i) (Some b) (spot s j)
      spots j =
          ap (λ (x : ℕ). cond (ltb j u) (spot_in x (slice_get t.cs j)) None) (length-set s.hs b (to_place i))
          ∙ at_set (spot_in (length s.hs)) s.cs u s.used i (filled e (link_or (slice_get s.hs b))) l k w j

      head_b : goes_to (link_or (slice_get s.hs b)) ≡ head_at s b
      head_b = or_head (slice_get s.hs b) ∙ sym (let z = b_not in rw z)

      links : (j : ℕ) → link t j ≡ cond (eqb j i) (head_at s b) (link s j)
      links j =
          link_set s.cs i (filled e (link_or (slice_get s.hs b))) l j
          ∙ ap (λ (x : Option ℕ). cond (eqb j i) x (link s j)) head_b

      heads' : (c : ℕ) → head_at t c ≡ cond (eqb c b) (Some i) (cond (is (spot s i) c) (link s i) (head_at s c))
      heads' c =
          ap (λ (x : ℕ). cond (eqb c x) (goes_to f) (head_of t.hs c)) (length-set s.hs b (to_place i))
          ∙ ap (λ (x : Option ℕ). cond (eqb c (length s.hs)) (goes_to f) x) (head_set s.hs b (to_place i) b_below c)
          ∙ ap (λ (x : Option ℕ). cond (eqb c (length s.hs)) (goes_to f) (cond (eqb c b) x (head_of s.hs c))) (goes_back i small)
          ∙ elim (cases_eq c b) [
            | inl q ↦ let z : eqb c b ≡ true = grind (arith, nat_tests) in let y : eqb c (length s.hs) ≡ false = ap (λ (x : ℕ). eqb x (length s.hs)) q ∙ b_not in rw (z, y)
            | inr q ↦ let z : eqb c b ≡ false = grind (arith, nat_tests) in rw z (heads c)
          ]

      total : s.held + 1 ≡ count (live t) (capacity t)
      total =
          let a = Orders.count_more (live s) (live t) i (capacity s) (omega arith) (ap is_some o) (live_set i (Some e) (entry_at s) (entry_at t) (joined_entries s u f i e l k w)) in
          let c = h.total in
          let d = ap (count (live t)) cap in
          omega arith

  -- ---- a free cell taken again
  free_first : (s : State A B) → Sound s → (i : ℕ) → goes_to s.free ≡ Some i → first (chain s (length s.hs)) ≡ Some i
  free_first s h i f =
      let z : eqb (length s.hs) (length s.hs) ≡ true = grind (arith, nat_tests) in
      sym (h.chains (length s.hs)).starts ∙ rw z f

  pub free_spot : (s : State A B) → Sound s → (i : ℕ) → goes_to s.free ≡ Some i → spot s i ≡ Some (length s.hs)
  free_spot s h i f =
      Orders.some_is (spot s i) (length s.hs) ((h.chains (length s.hs)).holds i ∙ Orders.first_has (chain s (length s.hs)) i (free_first s h i f))

  pub free_used : (s : State A B) → Sound s → (i : ℕ) → goes_to s.free ≡ Some i → i < s.used
  free_used s h i f = spot_used s i (length s.hs) (Orders.is_some (free_spot s h i f))

  pub reuse_sound : (s : State A B) (i : ℕ) (e : Entry A B) (f : Link) → Sound s → 0 < length s.hs → goes_to s.free ≡ Some i → goes_to f ≡ link s i → Sound (join_state (freed s s.used f) i e)
  reuse_sound s i e f h n q g =
      join_sound s s.used f i e h u h.size (λ j d. refl)
      (free_entry s n i sp)
      (ap (λ (o : Option ℕ). is o (e.hash % length s.hs)) sp ∙ (let z = mod_below e.hash (length s.hs) n in grind (arith, nat_tests)))
      (λ c t. let r : c ≡ length s.hs = eqb-true c (length s.hs) (sym (ap (λ (o : Option ℕ). is o c) sp) ∙ t) in sym (ap (λ (x : ℕ). before (chain s x) i) r ∙ Orders.before_head (chain s (length s.hs)) i (free_first s h i q)))
      (λ c. elim (cases_Bool (eqb c (length s.hs))) [ inl z ↦ rw (sp, z) g | inr z ↦ rw (sp, z) ])
    where
      sp : spot s i ≡ Some (length s.hs)
      sp = free_spot s h i q

      u : i < s.used
      u = free_used s h i q

  -- ---- a cell taken for the first time
  new_spot : (s : State A B) → spot s s.used ≡ None
  new_spot s = let z : ltb s.used s.used ≡ false = grind (arith, nat_tests) in rw z

  pub new_entry : (s : State A B) → entry_at s s.used ≡ None
  new_entry s = let z : ltb s.used s.used ≡ false = grind (arith, nat_tests) in rw z

  pub begin_sound : (s : State A B) (e : Entry A B) → Sound s → s.used < capacity s → Sound (join_state (freed s (s.used + 1) s.free) s.used e)
  begin_sound s e h l =
      join_sound s (s.used + 1) s.free s.used e h (omega arith) (omega arith) (λ j q. ltb_next j s.used q)
      (new_entry s)
      (ap (λ (o : Option ℕ). is o (e.hash % length s.hs)) (new_spot s))
      (λ c q. absurd (Orders.both_ways (ap (λ (o : Option ℕ). is o c) (new_spot s)) q))
      (λ c. let z = new_spot s in rw z)

  -- ---- a cell given up
  pub part_entries : (s : State A B) (i : ℕ) (e : Entry A B) (p : Option ℕ) (b : ℕ) (v : Link) → i < length s.cs → i < s.used → (j : ℕ) → entry_at (part_state s i e p b v) j ≡ cond (eqb j i) None (entry_at s j)
  part_entries s i e p b v l k j =
      at_set entry_in (edited_at (chain_to v) s.cs p) s.used s.used i (emptied e s.free) (let a = Memory.length_edited_at (chain_to v) s.cs p in omega arith) k (λ j d. refl) j
      ∙ ap (λ (o : Option (Entry A B)). cond (eqb j i) None (cond (ltb j s.used) o None)) (Memory.part_same entry_in (chain_to v) (λ n. refl) s.cs p j)

  pub part_sound : (s : State A B) (i : ℕ) (e : Entry A B) (p : Option ℕ) (v : Link) → Sound s → entry_at s i ≡ Some e → goes_to v ≡ link s i → p ≡ before (chain s (e.hash % length s.hs)) i → Sound (part_state s i e p (e.hash % length s.hs) v)
  part_sound s i e p v h o g q =
      sound_from t (let a = h.size in let z = cap in omega arith) total
      (Chains.moved (link s) (link t) (head_at s) (head_at t) (spot s) (spot t) (chain s) i (length s.hs) p h.chains out pred peer spots links heads)
    where
      b : ℕ
      b = e.hash % length s.hs

      t : State A B
      t = part_state s i e p b v

      sp : spot s i ≡ Some b
      sp = held_spot s i e o

      in_b : is (spot s i) b ≡ true
      in_b = Orders.is_some sp

      k : i < s.used
      k = spot_used s i b in_b

      within : i < capacity s
      within = let a = h.size in let z = k in omega arith

      n : 0 < length s.hs
      n = capacity_heads (length s.cs) (length s.hs) i within

      b_below : b < length s.hs
      b_below = mod_below e.hash (length s.hs) n

      l : i < length s.cs
      l = let a = capacity_cells (length s.cs) (length s.hs) in let z = within in omega arith

      small : i < most
      small = let a = capacity_most (length s.cs) (length s.hs) in let z = within in omega arith

      mid_size : length (edited_at (chain_to v) s.cs p) ≡ length s.cs
      mid_size = Memory.length_edited_at (chain_to v) s.cs p

      mid : i < length (edited_at (chain_to v) s.cs p)
      mid = let a = mid_size in let z = l in omega arith

      cs_size : length t.cs ≡ length s.cs
      cs_size = length-set (edited_at (chain_to v) s.cs p) i (emptied e s.free) ∙ mid_size

      hs_at : (r : Option ℕ) → length (pick r (set s.hs b v) s.hs) ≡ length s.hs
      hs_at None = length-set s.hs b v
      hs_at (Some x) = refl

      hs_size : length t.hs ≡ length s.hs
      hs_size = hs_at p

      cap : capacity t ≡ capacity s
      cap = capacity_same (length s.cs) (length s.hs) (length t.cs) (length t.hs) cs_size hs_size

      out : is (spot s i) (length s.hs) ≡ false
      out = ap (λ (x : Option ℕ). is x (length s.hs)) sp ∙ (let z = b_below in grind (arith, nat_tests))

      pred : (c : ℕ) → is (spot s i) c ≡ true → p ≡ before (chain s c) i
      pred c z = let r : c ≡ b = eqb-true c b (sym (ap (λ (x : Option ℕ). is x c) sp) ∙ z) in q ∙ ap (λ (x : ℕ). before (chain s x) i) (sym r)

      peer_in : (j : ℕ) → is p j ≡ true → is (spot s j) b ≡ true
      peer_in j z = (h.chains b).holds j ∙ elim (cases_Bool (has (chain s b) j)) [
        | inl y ↦ y
        | inr y ↦ absurd (Orders.both_ways (ap (λ (x : Option ℕ). is x j) q ∙ Orders.before_in None (chain s b) i j refl y) z)
      ]

      peer : (j : ℕ) → is p j ≡ true → spot s j ≡ spot s i
      peer j z = Orders.some_is (spot s j) b (peer_in j z) ∙ sym sp

      spots : (j : ℕ) → spot t j ≡ cond (eqb j i) (Some (length s.hs)) (spot s j)
      spots j =
          ap (λ (x : ℕ). cond (ltb j s.used) (spot_in x (slice_get t.cs j)) None) hs_size
          ∙ at_set (spot_in (length s.hs)) (edited_at (chain_to v) s.cs p) s.used s.used i (emptied e s.free) mid k (λ j d. refl) j
          ∙ ap (λ (x : Option ℕ). cond (eqb j i) (Some (length s.hs)) (cond (ltb j s.used) x None)) (Memory.part_same (spot_in (length s.hs)) (chain_to v) (λ x. refl) s.cs p j)

      free_at : head_at s (length s.hs) ≡ goes_to s.free
      free_at = let z : eqb (length s.hs) (length s.hs) ≡ true = grind (arith, nat_tests) in rw z

      links : (j : ℕ) → link t j ≡ cond (eqb j i) (head_at s (length s.hs)) (cond (is p j) (link s i) (link s j))
      links j =
          link_set (edited_at (chain_to v) s.cs p) i (emptied e s.free) mid j
          ∙ ap (λ (x : Option ℕ). cond (eqb j i) (goes_to s.free) x) (Memory.part_set link_in (chain_to v) (goes_to v) (λ x. refl) s.cs p j (λ z. spot_within s h.size j b (peer_in j z)))
          ∙ ap (λ (x : Option ℕ). cond (eqb j i) x (cond (is p j) (goes_to v) (link s j))) (sym free_at)
          ∙ ap (λ (x : Option ℕ). cond (eqb j i) (head_at s (length s.hs)) (cond (is p j) x (link s j))) g

      heads_at : (r : Option ℕ) (c : ℕ) → head_of (pick r (set s.hs b v) s.hs) c ≡ cond (eqb c b) (pick r (link s i) (head_of s.hs c)) (head_of s.hs c)
      heads_at None c = head_set s.hs b v b_below c ∙ ap (λ (x : Option ℕ). cond (eqb c b) x (head_of s.hs c)) g
      heads_at (Some x) c = elim (cases_Bool (eqb c b)) [ inl z ↦ rw z | inr z ↦ rw z ]

      heads : (c : ℕ) → head_at t c ≡ cond (eqb c (length s.hs)) (Some i) (cond (is (spot s i) c) (pick p (link s i) (head_at s c)) (head_at s c))
      heads c =
          ap (λ (x : ℕ). cond (eqb c x) (goes_to (to_place i)) (head_of t.hs c)) hs_size
          ∙ ap (λ (x : Option ℕ). cond (eqb c (length s.hs)) x (head_of t.hs c)) (goes_back i small)
          ∙ ap (λ (x : Option ℕ). cond (eqb c (length s.hs)) (Some i) x) (heads_at p c)
          ∙ elim (cases_Bool (eqb c (length s.hs))) [ inl z ↦ rw z | inr z ↦ rw (z, sp) ]

      total : s.held - 1 ≡ count (live t) (capacity t)
      total =
          let ft : (j : ℕ) → live t j ≡ cond (eqb j i) false (live s j) = live_set i None (entry_at s) (entry_at t) (part_entries s i e p b v l k) in
          let z : eqb i i ≡ true = grind (arith, nat_tests) in
          let a = Orders.count_more (live t) (live s) i (capacity s) within (ft i ∙ rw z)
          (λ j. elim (cases_eq j i) [
            | inl r ↦ let y : eqb j i ≡ true = grind (arith, nat_tests) in rw y (ap (live s) r ∙ ap is_some o)
            | inr r ↦ let y : eqb j i ≡ false = grind (arith, nat_tests) in rw y (sym (rw y at (ft j)))
          ]) in
          let c = h.total in
          let d : count (live t) (capacity t) ≡ count (live t) (capacity s) = ap (count (live t)) cap in
          omega arith

  -- ---- an entry renewed: the cell stays where it stands
  pub renew_sound : (s : State A B) (i : ℕ) (d e : Entry A B) (v : Link) → Sound s → entry_at s i ≡ Some d → d.hash ≡ e.hash → goes_to v ≡ link s i → Sound (renew_state s i e v)
  renew_sound s i d e v h o hash g =
      sound_from t (let a = h.size in let z = cap in omega arith) total
      (λ c. (chain s c, Chains.same (link s) (link t) (head_at s c) (head_at t c) (λ j. is (spot s j) c) (λ j. is (spot t j) c) (chain s c) (h.chains c) (λ j. ap (λ (x : Option ℕ). is x c) (spots j)) (λ j _. links j) refl))
    where
      t : State A B
      t = renew_state s i e v

      sp : spot s i ≡ Some (e.hash % length s.hs)
      sp = held_spot s i d o ∙ ap (λ (x : ℕ). Some (x % length s.hs)) hash

      k : i < s.used
      k = spot_used s i (e.hash % length s.hs) (Orders.is_some sp)

      l : i < length s.cs
      l = let a = h.size in let z = capacity_cells (length s.cs) (length s.hs) in let y = k in omega arith

      cap : capacity t ≡ capacity s
      cap = capacity_same (length s.cs) (length s.hs) (length t.cs) (length s.hs) (length-set s.cs i (filled e v)) refl

      -- what was there already, written again at i
      stays : {Y : Type 0} (f : ℕ → Y) (y : Y) (j : ℕ) → f i ≡ y → cond (eqb j i) y (f j) ≡ f j
      stays f y j z = elim (cases_eq j i) [
        | inl q ↦ let w : eqb j i ≡ true = grind (arith, nat_tests) in rw w (sym (ap f q ∙ z))
        | inr n ↦ let w : eqb j i ≡ false = grind (arith, nat_tests) in rw w
      ]

      links : (j : ℕ) → link t j ≡ link s j
      links j = link_set s.cs i (filled e v) l j ∙ stays (link s) (goes_to v) j (sym g)

      spots : (j : ℕ) → spot t j ≡ spot s j
      spots j = at_set (spot_in (length s.hs)) s.cs s.used s.used i (filled e v) l k (λ j d. refl) j ∙ stays (spot s) (Some (e.hash % length s.hs)) j sp

      entries : (j : ℕ) → entry_at t j ≡ cond (eqb j i) (Some e) (entry_at s j)
      entries j = at_set entry_in s.cs s.used s.used i (filled e v) l k (λ j d. refl) j

      lives : (j : ℕ) → live t j ≡ live s j
      lives j = live_set i (Some e) (entry_at s) (entry_at t) entries j ∙ stays (live s) true j (ap is_some o)

      total : s.held ≡ count (live t) (capacity t)
      total =
          let a = Orders.count_same (live s) (live t) (capacity s) (λ j _. lives j) in
          let c = h.total in
          let d : count (live t) (capacity t) ≡ count (live t) (capacity s) = ap (count (live t)) cap in
          omega arith

  pub renewed_entries : (s : State A B) (i : ℕ) (e : Entry A B) (v : Link) → i < length s.cs → i < s.used → (j : ℕ) → entry_at (renew_state s i e v) j ≡ cond (eqb j i) (Some e) (entry_at s j)
  renewed_entries s i e v l k j = at_set entry_in s.cs s.used s.used i (filled e v) l k (λ j d. refl) j

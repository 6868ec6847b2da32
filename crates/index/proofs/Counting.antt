-- How many cells are held, before and after a call.
use Rattle.std.proofs.Common.{◌≡◌, ℕ, ◌+◌, ◌<◌, true, cond, eqb, ltb, is_some, Some, None, Option, sym, refl, ap, ◌∙◌, arith}
use Rattle.std.proofs.lemmas.Bool.{lt-ltb, le-ltb}
use Rattle.table.specs.declared.cell.Entry.{Entry}
use Rattle.links.specs.Places.{count}
use Rattle.table.specs.Chain.{State, capacity, entry_at, live, Sound}
use Rattle.table.specs.Calls.{Took}
use Rattle.links.proofs.Orders

module _ {A B : Type 0} where
  -- a cell that is not held leaves room
  pub room : (s : State A B) (i : ℕ) → i < capacity s → entry_at s i ≡ None → count (live s) (capacity s) < capacity s
  room s i l e =
      let a = Orders.count_more (live s) (λ j. cond (eqb j i) true (live s j)) i (capacity s) l (ap is_some e) (λ j. refl) in
      let b = Orders.count_all (λ j. cond (eqb j i) true (live s j)) (capacity s) in
      omega arith

  -- a cell is taken exactly where not all are held
  pub took_answer : (s t : State A B) (e : Entry A B) (r : Option ℕ) → Took s t e r → is_some r ≡ ltb (count (live s) (capacity s)) (capacity s)
  took_answer s t e None k =
      let a = Orders.count_full (live s) (capacity s) (k.full refl) in
      sym (le-ltb (count (live s) (capacity s)) (capacity s) (omega arith))
  took_answer s t e (Some i) k = sym (lt-ltb (count (live s) (capacity s)) (capacity s) (room s i (k.within i refl) (k.fresh i refl)))

  pub held_more : (s t : State A B) → Sound s → Sound t → (n : ℕ) → t.held ≡ s.held + n → count (live t) (capacity t) ≡ count (live s) (capacity s) + n
  held_more s t h k n e = let a = h.total in let b = k.total in omega arith

  pub held_less : (s t : State A B) → Sound s → Sound t → (n : ℕ) → t.held + n ≡ s.held → count (live t) (capacity t) + n ≡ count (live s) (capacity s)
  held_less s t h k n e = let a = h.total in let b = k.total in omega arith

  pub held_same : (s t : State A B) → Sound s → Sound t → t.held ≡ s.held → count (live t) (capacity t) ≡ count (live s) (capacity s)
  held_same s t h k e = sym k.total ∙ e ∙ h.total

  pub held_none : (s : State A B) → ((j : ℕ) → entry_at s j ≡ None) → count (live s) (capacity s) ≡ 0
  held_none s h = Orders.count_none (live s) (capacity s) (λ j. ap is_some (h j))

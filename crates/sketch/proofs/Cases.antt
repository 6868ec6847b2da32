-- Shows which of its four outcomes an increment has, and what the sketch then is.
use Rattle.std.proofs.Common.{◌≡◌, ℕ, ◌+◌, ◌<◌, ◌≤◌, true, false, length, ap, ⊎_elim, arith}
use Rattle.std.proofs.lemmas.Bool.Decides.{nat_tests}
use Rattle.std.proofs.lemmas.Bool.{cases_lt, cases_Bool}
use Rattle.sketch.specs.declared.increment.Increment.{Increment}
use Rattle.sketch.specs.declared.increment.Increment.TheVariants.{Closed, Full, Counted, Halved}
use Rattle.sketch.specs.Tables.{rises}
use Rattle.sketch.specs.Sketches.{Sketch, outcome, reaches, after, incremented}

module _ (s : Sketch) (hash : ℕ) where
  pub is_closed : length s.words ≡ 0 → outcome s hash ≡ Closed
  unfolding outcome
  is_closed e = grind (arith, nat_tests)

  pub is_full : 0 < length s.words → rises s.words hash ≡ false → outcome s hash ≡ Full
  unfolding outcome
  is_full l r = grind (arith, nat_tests)

  pub is_counted : 0 < length s.words → rises s.words hash ≡ true → s.size + 1 < s.sample → outcome s hash ≡ Counted
  unfolding outcome reaches
  is_counted l r h = grind (arith, nat_tests)

  pub is_halved : 0 < length s.words → rises s.words hash ≡ true → s.sample ≤ s.size + 1 → outcome s hash ≡ Halved
  unfolding outcome reaches
  is_halved l r h = grind (arith, nat_tests)

  -- the sketch after an increment is that of its outcome
  pub incremented_by : (o : Increment) → outcome s hash ≡ o → incremented s hash ≡ after o s hash
  unfolding incremented
  incremented_by o e = ap (λ (x : Increment). after x s hash) e

-- the four outcomes, each with what leads to it
pub data Case (s : Sketch) (hash : ℕ) : Type 0 where
  at_closed : length s.words ≡ 0 → outcome s hash ≡ Closed → Case s hash
  at_full : 0 < length s.words → rises s.words hash ≡ false → outcome s hash ≡ Full → Case s hash
  at_counted : 0 < length s.words → rises s.words hash ≡ true → s.size + 1 < s.sample → outcome s hash ≡ Counted → Case s hash
  at_halved : 0 < length s.words → rises s.words hash ≡ true → s.sample ≤ s.size + 1 → outcome s hash ≡ Halved → Case s hash

pub case_of : (s : Sketch) (hash : ℕ) → Case s hash
case_of s hash =
    ⊎_elim
    (λ (l : 0 < length s.words). ⊎_elim
    (λ (r : rises s.words hash ≡ true). ⊎_elim
    (λ (h : s.size + 1 < s.sample). at_counted l r h (is_counted s hash l r h))
    (λ (h : s.sample ≤ s.size + 1). at_halved l r h (is_halved s hash l r h))
    (cases_lt (s.size + 1) s.sample))
    (λ (r : rises s.words hash ≡ false). at_full l r (is_full s hash l r))
    (cases_Bool (rises s.words hash)))
    (λ (l : length s.words ≤ 0). let e : length s.words ≡ 0 = omega arith in at_closed e (is_closed s hash e))
    (cases_lt 0 (length s.words))

-- Shows what opening comes to in each of its cases, and that the table which it makes has the least power of two of words.
use Rattle.std.proofs.Common.{◌≡◌, ℕ, ◌<◌, ◌≤◌, true, false, min, max, ltb, length, sym, ap, ◌∙◌, subst, arith, pow_pos}
use Rattle.std.proofs.lemmas.List.{length-replicate}
use Rattle.std.proofs.lemmas.Bool.Decides.{nat_tests}
use Rattle.std.proofs.lemmas.Bool.{lt-ltb, le-ltb, and_right}
use Rattle.sketch.specs.Powers.{least_power, LeastPower}
use Rattle.sketch.specs.Sketches.{Sketch, closed, opens_over, made_for, fresh, opened, ensured}
use Rattle.sketch.proofs.Powers.{least_power_is, least_within}

-- what a number of lent words has over which a sketch opens
pub opening_words : (t : ℕ) → opens_over t ≡ true → (128 ≤ t) × (t ≤ 8192) × (least_power t ≡ t)
unfolding opens_over
opening_words t o = grind (arith, nat_tests)

-- the sketch is made for 128 hashes at least, and for no more than there are words
pub made_within : (t c : ℕ) → 128 ≤ t → (128 ≤ made_for t c) × (made_for t c ≤ t)
unfolding made_for
made_within t c h = (omega arith, omega arith)

-- its table lies within the lent words
pub table_within : (t c : ℕ) → opens_over t ≡ true → least_power (made_for t c) ≤ t
table_within t c o =
    let w = opening_words t o in
    least_within (made_for t c) t (made_within t c w.0).1 w.2

-- what is known of the number h of hashes that the code makes the sketch for
pub record Opening (t c h : ℕ) : Type 0 where
  pub is : h ≡ made_for t c
  pub some : 0 < h
  pub most : h ≤ 8192
  pub fits : least_power h ≤ t

pub opening : (t c h : ℕ) → opens_over t ≡ true → h ≡ max 128 (min c t) → Opening t c h
unfolding made_for
opening t c h o e =
    let w = opening_words t o in
    let i : h ≡ made_for t c = omega (arith, w.0) in
    record { is = i; some = omega arith; most = omega (arith, w.0, w.1); fits = omega (arith, ap least_power i, table_within t c o) }

module _ (t c : ℕ) (s : Sketch) where
  pub stays_closed : opens_over t ≡ false → s ≡ ensured t c s
  unfolding ensured
  stays_closed o = rw o

  pub stays_open : least_power (made_for t c) ≤ length s.words → s ≡ ensured t c s
  unfolding ensured
  stays_open h =
      let b = and_right (opens_over t) (ltb (length s.words) (least_power (made_for t c))) (le-ltb (length s.words) (least_power (made_for t c)) h) in
      rw b

  pub opens : opens_over t ≡ true → length s.words < least_power (made_for t c) → opened t c ≡ ensured t c s
  unfolding ensured
  opens o h = rw (o, lt-ltb (length s.words) (least_power (made_for t c)) h)

-- opening a closed sketch makes a table of the least power of two of words
pub least_table : (t c : ℕ) (s u : Sketch) → opens_over t ≡ true → s ≡ closed → u ≡ ensured t c s → LeastPower (made_for t c) (length u.words)
unfolding closed opened fresh
least_table t c s u o e f =
    let i = least_power_is (made_for t c) in
    let none : length s.words ≡ 0 = ap (λ (x : Sketch). length x.words) e in
    let some : length s.words < least_power (made_for t c) = omega (arith, none, pow_pos i.power.0, i.power.1) in
    let l : length u.words ≡ least_power (made_for t c) = ap (λ (x : Sketch). length x.words) (f ∙ sym (opens t c s o some)) ∙ length-replicate {A = ℕ} (least_power (made_for t c)) 0 in
    subst (LeastPower (made_for t c)) (sym l) i

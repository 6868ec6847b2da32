-- Shows the laws of an increment over its outcomes, and over runs of increments: fewer than the sample never halve, and until a
-- halving a frequency is at least the smaller of 15 and the increments of its hash.
use Rattle.std.proofs.Common.{◌≡◌, ℕ, ◌+◌, ◌<◌, ◌≤◌, min, cond, eqb, List, [], ◌∷◌, length, get_or, count_by, ◌≢◌, sym, refl, ap, ◌∙◌, subst, arith, pow_pos}
use Rattle.std.proofs.lemmas.List.{get_or-map}
use Rattle.std.proofs.lemmas.List.Sums.{sum_by-cons}
use Rattle.std.proofs.lemmas.Bool.Decides.{nat_tests}
use Rattle.std.proofs.lemmas.Grind.{common_steps}
use Rattle.sketch.specs.declared.increment.Increment.{Increment}
use Rattle.sketch.specs.declared.increment.Increment.TheVariants.{Closed, Full, Counted, Halved}
use Rattle.sketch.specs.Counters.{counter, halved}
use Rattle.sketch.specs.Tables.{held, estimate, raised_all, halved_all}
use Rattle.sketch.specs.Sketches.{Sketch, frequency, fresh, opened, made_for, counted, halved_sketch, outcome, reaches, after, incremented}
use Rattle.sketch.specs.Laws.{HalvingHalves, IncrementRaises, run, NeverHalves, FewNeverHalve, FrequencyIsAtLeast, EarlyFrequencyIsAtLeast}
use Rattle.sketch.proofs.Word.{counter_halved}
use Rattle.sketch.proofs.Depths.{raised_to_all, length_raised_to, held_lt, raised_all_full}
use Rattle.sketch.proofs.Powers.{least_power_is}
use Rattle.sketch.proofs.Raising.{raises, raised_to_self, raised_to_mono}
use Rattle.sketch.proofs.Cases.{at_closed, at_full, at_counted, at_halved, case_of}

-- ---- one call

pub halving_halves : (s : Sketch) → HalvingHalves s (halved_sketch s)
unfolding halved_sketch halved_all
halving_halves s j k l h = ap (λ (x : ℕ). counter x k) (get_or-map halved s.words j 0 0 l) ∙ counter_halved (get_or s.words j 0) k h

-- the law of an increment, for the outcome that it has
by_outcome : (s : Sketch) (hash : ℕ) (o : Increment) → outcome s hash ≡ o → IncrementRaises o s (after o s hash) hash → IncrementRaises (outcome s hash) s (incremented s hash) hash
unfolding incremented
by_outcome s hash o e h = subst (λ (x : Increment). IncrementRaises x s (after x s hash) hash) (sym e) h

pub increment_raises : (s : Sketch) (hash : ℕ) → IncrementRaises (outcome s hash) s (incremented s hash) hash
unfolding after counted
increment_raises s hash =
    elim (case_of s hash) [
      | at_closed l e ↦ by_outcome s hash Closed e refl
      | at_full l r e ↦ by_outcome s hash Full e (raises s s hash l (sym (raised_all_full s.words hash r)))
      | at_counted l r h e ↦ by_outcome s hash Counted e (raises s (counted s hash) hash l refl)
      | at_halved l r h e ↦ by_outcome s hash Halved e (counted s hash, (raises s (counted s hash) hash l refl, halving_halves (counted s hash)))
    ]

-- ---- sizes over a run

-- an increment leaves the sample, and counts one more at most
pub size_grows : (s : Sketch) (hash : ℕ) → ((incremented s hash).sample ≡ s.sample) × ((incremented s hash).size ≤ s.size + 1)
unfolding incremented outcome after counted halved_sketch
size_grows s hash = grind (arith, nat_tests)

-- where the sample has room for one more, an increment does not halve
pub room_never_halves : (s : Sketch) (hash : ℕ) → s.size + 1 < s.sample → outcome s hash ≢ Halved
unfolding outcome reaches
room_never_halves s hash h q = grind (arith, nat_tests)

few : (s : Sketch) (hs : List ℕ) → s.size + length hs < s.sample → NeverHalves s hs
few s [] h = tt
few s (x ∷ hs) h =
    let g = size_grows s x in
    (room_never_halves s x (omega arith), few (incremented s x) hs (omega (arith, g.0, g.1)))

pub few_never_halve : FewNeverHalve
unfolding opened fresh
few_never_halve t c hs h = few (opened t c) hs (omega arith)

-- ---- counters over a run that does not halve

inc_words : (s : Sketch) (hash : ℕ) → 0 < length s.words → outcome s hash ≢ Halved → (incremented s hash).words ≡ raised_all s.words hash
unfolding incremented outcome after counted
inc_words s hash pos q = grind (arith, nat_tests, raised_all_full)

run_bound : (s : Sketch) (hash i : ℕ) (hs : List ℕ) → i < 4 → 0 < length s.words → NeverHalves s hs
    → min 15 (held s.words hash i + count_by (eqb hash) hs) ≤ held (run s hs).words hash i
run_bound s hash i [] l pos q = omega (arith, held_lt s.words hash i)
run_bound s hash i (x ∷ hs) l pos q =
    let e = inc_words s x pos q.0 ∙ sym (raised_to_all s.words x) in
    let n : 0 < length (incremented s x).words = omega (arith, ap length e, length_raised_to s.words x 4) in
    let ih = run_bound (incremented s x) hash i hs l n q.1 in
    let c = sum_by-cons (λ (y : ℕ). cond (eqb hash y) 1 0) x hs in
    grind (arith, nat_tests, e, ih, c, raised_to_self, raised_to_mono)

-- a sketch that was just opened has words
opened_some : (t c : ℕ) → 0 < length (opened t c).words
unfolding opened fresh
opened_some t c = grind (arith, common_steps, (least_power_is (made_for t c)).power, pow_pos)

pub at_least : (s : Sketch) (hash r : ℕ) → r ≡ frequency s hash → FrequencyIsAtLeast r s hash
unfolding frequency estimate
at_least s hash r f t c hs q e =
    let o = opened t c in
    let b : (i : ℕ) → i < 4 → min 15 (count_by (eqb hash) hs) ≤ held s.words hash i =
    λ i l. omega (arith, run_bound o hash i hs l (opened_some t c) q, ap (λ (x : Sketch). held x.words hash i) e) in
    omega (arith, f, b 0 (omega arith), b 1 (omega arith), b 2 (omega arith), b 3 (omega arith))

pub early_at_least : (s : Sketch) (hash r : ℕ) → r ≡ frequency s hash → EarlyFrequencyIsAtLeast r s hash
early_at_least s hash r f t c hs h e = at_least s hash r f t c hs (few_never_halve t c hs h) e

-- a frequency is 15 at most
pub frequency_most : (s : Sketch) (hash : ℕ) → frequency s hash ≤ 15
unfolding frequency estimate
frequency_most s hash = omega (arith, held_lt s.words hash 0)

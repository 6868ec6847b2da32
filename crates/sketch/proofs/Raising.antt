-- Shows what raising the four counters of a hash does to each counter of the table: the four rise by one up to 15, the others
-- stay, none falls.
use Rattle.std.proofs.Common.{◌≡◌, ℕ, zero, suc, ◌+◌, ◌<◌, ◌≤◌, min, List, length, get_or, set, sym, refl, ap, ◌∙◌, le_refl, arith, length-set}
use Rattle.std.proofs.lemmas.List.{set_past}
use Rattle.std.proofs.lemmas.Nat.{mod_below}
use Rattle.std.proofs.lemmas.Grind.{elements}
use Rattle.sketch.specs.Counters.{counter, raised}
use Rattle.sketch.specs.Tables.{place, number, held, raised_at, raised_all}
use Rattle.sketch.specs.Sketches.{Sketch}
use Rattle.sketch.specs.Laws.{Raises}
use Rattle.sketch.proofs.Word.{counter_lt, counter_raised_same, counter_raised_other}
use Rattle.sketch.proofs.Depths.{raised_to, raised_to_all, length_raised_to, held_raised_to, held_raised_at_other, set_raised_other}

-- no counter falls
raised_at_mono : (ws : List ℕ) (x d hash i : ℕ) → held ws hash i ≤ held (raised_at ws x d) hash i
unfolding held raised_at
raised_at_mono ws x d hash i = grind (arith, elements, counter_raised_other, counter_raised_same, counter_lt, set_past, length-set)

pub raised_to_mono : (ws : List ℕ) (x n hash i : ℕ) → held ws hash i ≤ held (raised_to ws x n) hash i
unfolding raised_to
raised_to_mono ws x zero hash i = le_refl (held ws hash i)
raised_to_mono ws x (suc n) hash i = omega (arith, raised_to_mono ws x n hash i, raised_at_mono (raised_to ws x n) x n hash i)

raised_at_self : (ws : List ℕ) (hash d : ℕ) → 0 < length ws → held (raised_at ws hash d) hash d ≡ min 15 (held ws hash d + 1)
unfolding held raised_at place
raised_at_self ws hash d h = grind (arith, elements, mod_below, counter_raised_same, length-set)

pub raised_to_self : (ws : List ℕ) (hash n i : ℕ) → 0 < length ws → i < n → held (raised_to ws hash n) hash i ≡ min 15 (held ws hash i + 1)
unfolding raised_to
raised_to_self ws hash zero i h l = omega arith
raised_to_self ws hash (suc n) i h l = grind (arith, raised_at_self, length_raised_to, held_raised_to, held_raised_at_other, raised_to_self ws hash n i h)

-- a counter that is none of those up to n stays
set_raised_stay : (ws : List ℕ) (p k q j : ℕ) → (q ≡ p → j ≡ k → ⊥) → counter (get_or (set ws p (raised (get_or ws p 0) k)) q 0) j ≡ counter (get_or ws q 0) j
set_raised_stay ws p k q j n = grind (arith, elements, set_raised_other)

raised_to_stay : (ws : List ℕ) (hash n j k : ℕ) → ((i : ℕ) → i < n → j ≡ place (length ws) hash i → k ≡ number hash i → ⊥)
    → counter (get_or (raised_to ws hash n) j 0) k ≡ counter (get_or ws j 0) k
unfolding raised_to raised_at
raised_to_stay ws hash zero j k f = refl
raised_to_stay ws hash (suc n) j k f = grind (arith, set_raised_stay, length_raised_to, raised_to_stay ws hash n j k, f)

-- a table whose four counters of a hash were raised
pub raises : (s t : Sketch) (hash : ℕ) → 0 < length s.words → t.words ≡ raised_all s.words hash → Raises s t hash
raises s t hash pos e =
    let w : t.words ≡ raised_to s.words hash 4 = e ∙ sym (raised_to_all s.words hash) in
    record {
      four = λ i l. ap (λ (x : List ℕ). held x hash i) w ∙ raised_to_self s.words hash 4 i pos l;
      others = λ j k f. ap (λ (x : List ℕ). counter (get_or x j 0) k) w ∙ raised_to_stay s.words hash 4 j k f;
      length = ap length w ∙ length_raised_to s.words hash 4;
    }

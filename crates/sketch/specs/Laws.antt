-- What holds of the sketch, counter by counter and over whole runs of increments.
use Rattle.std.specs.Prelude.{◌≡◌, ℕ, ◌+◌, ◌/◌, ◌<◌, ◌≤◌, min, List, [], ◌∷◌, length, count_by, ◌≢◌, nat_eq, slice_index}
use Rattle.sketch.specs.declared.increment.Increment.{Increment}
use Rattle.sketch.specs.declared.increment.Increment.TheVariants.{Closed, Full, Counted, Halved}
use Rattle.sketch.specs.Counters.{most, counter}
use Rattle.sketch.specs.Tables.{place, number, held}
use Rattle.sketch.specs.Sketches.{Sketch, opened, outcome, incremented}

-- ---- counter by counter

-- halving halves every counter, rounding down
abbrev pub HalvingHalves : Sketch → Sketch → Type 0
HalvingHalves s h =
    (j k : ℕ) → j < length s.words → k < 16
    → counter (slice_index h.words j) k ≡ counter (slice_index s.words j) k / 2

-- counter k of word j is none of the four of a hash, in a table of n words
abbrev pub NoneOfFour : ℕ → ℕ → ℕ → ℕ → Type 0
NoneOfFour n hash j k = (i : ℕ) → i < 4 → j ≡ place n hash i → k ≢ number hash i

-- each of the four counters of a hash that is below 15 is one higher, and no other counter differs
pub record Raises (s t : Sketch) (hash : ℕ) : Type 0 where
  pub four : (i : ℕ) → i < 4 → held t.words hash i ≡ min most (held s.words hash i + 1)
  pub others : (j k : ℕ) → NoneOfFour (length s.words) hash j k → counter (slice_index t.words j) k ≡ counter (slice_index s.words j) k
  pub length : length t.words ≡ length s.words

-- what an increment does to the counters, at each of its outcomes
abbrev pub IncrementRaises : Increment → Sketch → Sketch → ℕ → Type 0
IncrementRaises Closed s t hash = t ≡ s
IncrementRaises Full s t hash = Raises s t hash
IncrementRaises Counted s t hash = Raises s t hash
IncrementRaises Halved s t hash = (m : Sketch) × (Raises s m hash × HalvingHalves m t)

-- ---- over runs

-- the sketch after the increments of a list, first to last
abbrev pub run : Sketch → List ℕ → Sketch
run s [] = s
run s (h ∷ hs) = run (incremented s h) hs

-- no increment of the list halves the sketch
abbrev pub NeverHalves : Sketch → List ℕ → Type 0
NeverHalves s [] = Unit {0}
NeverHalves s (h ∷ hs) = (outcome s h ≢ Halved) × NeverHalves (incremented s h) hs

-- fewer increments than the sample never halve
abbrev pub FewNeverHalve : Type 0
FewNeverHalve = (t c : ℕ) (hs : List ℕ) → length hs < (opened t c).sample → NeverHalves (opened t c) hs

-- before the first halving a frequency r of a hash is at least the smaller of 15 and the hash's increments since the opening
abbrev pub FrequencyIsAtLeast : ℕ → Sketch → ℕ → Type 0
FrequencyIsAtLeast r s hash =
    (t c : ℕ) (hs : List ℕ) → NeverHalves (opened t c) hs → s ≡ run (opened t c) hs
    → min most (count_by (nat_eq hash) hs) ≤ r

-- the same where fewer hashes were counted than the sample
abbrev pub EarlyFrequencyIsAtLeast : ℕ → Sketch → ℕ → Type 0
EarlyFrequencyIsAtLeast r s hash =
    (t c : ℕ) (hs : List ℕ) → length hs < (opened t c).sample → s ≡ run (opened t c) hs
    → min most (count_by (nat_eq hash) hs) ≤ r

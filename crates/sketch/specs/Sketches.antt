-- The frequency sketch: a table of counters, the sample after which it ages, and how much of the sample is counted.
use Rattle.std.specs.Prelude.{ℕ, ◌+◌, ◌-◌, ◌*◌, ◌/◌, min, max, Bool, cond, ◌&&◌, List, [], length, replicate, ◌==◌, nat_le, nat_lt}
use Rattle.sketch.specs.declared.increment.Increment.{Increment}
use Rattle.sketch.specs.declared.increment.Increment.TheVariants.{Closed, Full, Counted, Halved}
use Rattle.sketch.specs.Powers.{least_power}
use Rattle.sketch.specs.Tables.{estimate, raised_all, rises, halved_all, odds_all}

pub record Sketch : Type 0 where
  pub words : List ℕ
  pub sample : ℕ
  pub size : ℕ

-- a sketch that was not opened has no words
unfoldable pub closed : Sketch
closed = record { words = []; sample = 0; size = 0 }

-- how often a hash was seen, as far as the sketch knows: 0 without words
unfoldable pub frequency : Sketch → ℕ → ℕ
frequency s hash = estimate s.words hash

-- ---- opening

-- whether a sketch opens over t lent words: a power of two from 128 to 8,192
unfoldable pub opens_over : ℕ → Bool
opens_over t = (nat_le 128 t && nat_le t 8192) && least_power t == t

-- how many hashes a sketch over t words that is opened for c is made for: c, raised to 128 or cut to t
unfoldable pub made_for : ℕ → ℕ → ℕ
made_for t c = min (max c 128) t

-- a sketch just opened that is made for m hashes: all counters 0, and a sample of ten for each
unfoldable pub fresh : ℕ → Sketch
fresh m = record { words = replicate (least_power m) 0; sample = 10 * m; size = 0 }

-- a sketch over t lent words, just opened for c
unfoldable pub opened : ℕ → ℕ → Sketch
opened t c = fresh (made_for t c)

-- opening for c over t lent words: a table that is large enough stays as it is, and over other numbers of words nothing opens
unfoldable pub ensured : ℕ → ℕ → Sketch → Sketch
ensured t c s = cond (opens_over t && nat_lt (length s.words) (least_power (made_for t c))) (opened t c) s

-- ---- an increment

-- halving: every counter halved, and the size halved less a quarter of the counters that were odd
unfoldable pub halved_sketch : Sketch → Sketch
halved_sketch s = record { words = halved_all s.words; sample = s.sample; size = s.size / 2 - odds_all s.words / 4 }

-- the four counters of a hash raised, and one more counted
unfoldable pub counted : Sketch → ℕ → Sketch
counted s hash = record { words = raised_all s.words hash; sample = s.sample; size = s.size + 1 }

-- whether one more reaches the sample
unfoldable pub reaches : Sketch → Bool
reaches s = nat_le s.sample (s.size + 1)

-- what an increment of a hash comes to
unfoldable pub outcome : Sketch → ℕ → Increment
outcome s hash =
    cond (length s.words == 0) Closed
    (cond (rises s.words hash) (cond (reaches s) Halved Counted) Full)

-- the sketch after each: without words, and where all four counters are full, it stays as it is
unfoldable pub after : Increment → Sketch → ℕ → Sketch
after Closed s hash = s
after Full s hash = s
after Counted s hash = counted s hash
after Halved s hash = halved_sketch (counted s hash)

-- the sketch after an increment of a hash
unfoldable pub incremented : Sketch → ℕ → Sketch
incremented s hash = after (outcome s hash) s hash

-- What lent words mean: the sketch that lies in them, and the words beyond its table.
use Rattle.std.specs.Prelude.{◌≡◌, ℕ, List, ◌++◌, length, take, drop, Option, None, Some}
use Rattle.sketch.specs.declared.meter.Meter.{Meter}
use Rattle.sketch.specs.declared.FrequencySketch.{FrequencySketch}
use Rattle.sketch.specs.Sketches.{Sketch, closed}

-- all words that were lent
abbrev pub lent_words : FrequencySketch → List ℕ
lent_words f = f.words.now

-- how many words were lent
abbrev pub lent : FrequencySketch → ℕ
lent f = length (lent_words f)

-- the sketch in words with this meter: its table is their front
abbrev pub sketch_by : Meter → List ℕ → Sketch
sketch_by m ws = record { words = take m.table_len ws; sample = m.sample_size; size = m.size }

-- the sketch in words: closed until there is a meter
unfoldable pub sketch_in : Option Meter → List ℕ → Sketch
sketch_in None ws = closed
sketch_in (Some m) ws = sketch_by m ws

-- the sketch that a value of the type is
abbrev pub meaning : FrequencySketch → Sketch
meaning f = sketch_in f.meter (lent_words f)

-- the same memory with the sketch s in it: the words beyond the table of s are as they were
pub record Becomes (before after : FrequencySketch) (s : Sketch) : Type 0 where
  pub sketch : meaning after ≡ s
  pub beyond : lent_words after ≡ s.words ++ drop (length s.words) (lent_words before)
  pub lent : length (lent_words after) ≡ length (lent_words before)

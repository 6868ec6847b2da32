-- When the sketch opens, and for how much.
use Rattle.std.specs.Prelude.{ℕ, ◌/◌, Bool, cond, ◌&&◌, length, Some, None, Option, ◌==◌, nat_le}
use Rattle.sketch.specs.Sketches.{Sketch, ensured}
use Rattle.rules.specs.Rounding.{weighed_size}

-- for how much a sketch opens: the capacity, or where entries are weighed, as many as there are times the share of the capacity that is recorded
unfoldable pub opening_size : Bool → ℕ → ℕ → ℕ → ℕ
opening_size weighed count recorded c = cond weighed (cond (c == 0) 0 (weighed_size count recorded c)) c

-- whether it is time to open: nothing was opened yet, and the recorded weight has reached half of the capacity
unfoldable pub opens : ℕ → ℕ → Sketch → Bool
opens recorded c k = length k.words == 0 && nat_le (c / 2) recorded

-- the sketch after a newcomer that fitted, over so many lent words
unfoldable pub opening : Bool → ℕ → ℕ → ℕ → Option ℕ → Sketch → Sketch
opening weighed words count recorded None k = k
opening weighed words count recorded (Some c) k = cond (opens recorded c k) (ensured words (opening_size weighed count recorded c) k) k

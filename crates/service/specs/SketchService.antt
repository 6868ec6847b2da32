-- What a sketch is asked for by a script, what it answers, and what it then is.
use Rattle.std.specs.Prelude.{ℕ, length}
use Rattle.script.specs.declared.answer.Answer.{Answer}
use Rattle.script.specs.declared.answer.Answer.TheVariants.{Opened, Closed, Counted, Halved, Full, Estimate}
use Rattle.script.specs.declared.command.SketchCommand.{SketchCommand}
use Rattle.script.specs.declared.command.SketchCommand.TheVariants as command
use Rattle.sketch.specs.declared.increment.Increment.{Increment}
use Rattle.sketch.specs.declared.increment.Increment.TheVariants as increment
use Rattle.sketch.specs.Sketches.{Sketch, ensured, frequency, outcome, incremented}

-- the sketch after a command, over t lent words
abbrev pub sketch_after : ℕ → Sketch → SketchCommand → Sketch
sketch_after t s (command.Open c) = ensured t c s
sketch_after t s (command.Count hash) = incremented s hash
sketch_after t s (command.Estimate hash) = s

-- what an increment is answered, with the size that it left
abbrev pub counted_answer : Increment → ℕ → Answer
counted_answer increment.Closed size = Closed
counted_answer increment.Full size = Full size
counted_answer increment.Counted size = Counted size
counted_answer increment.Halved size = Halved size

-- the answer to a command, over t lent words
abbrev pub sketch_answer : ℕ → Sketch → SketchCommand → Answer
sketch_answer t s (command.Open c) = Opened (length (ensured t c s).words) (ensured t c s).sample
sketch_answer t s (command.Count hash) = counted_answer (outcome s hash) (incremented s hash).size
sketch_answer t s (command.Estimate hash) = Estimate (frequency s hash)

-- What a line asks for, as its words say.
use Rattle.std.specs.Prelude.{ℕ, Bool, false, cond, List, [], ◌∷◌, Some, None, Option, Ok, Err, Result, ◌==◌}
use Rattle.script.specs.declared.command.Command.{Command}
use Rattle.script.specs.declared.command.Fault.{Fault}
use Rattle.script.specs.declared.command.Fault.TheVariants.{UnknownCommand}
use Rattle.script.specs.Readings.{Asked, or_else}
use Rattle.script.specs.SketchLines.{sketch_reading}
use Rattle.script.specs.QueueLines.{queue_reading}

-- the command that is asked for: one that no reader knows is none
abbrev pub known : Asked → Result Command Fault
known (Ok None) = Err UnknownCommand
known (Ok (Some c)) = Ok c
known (Err e) = Err e

-- what a first word asks for, with the words behind it
abbrev pub named : List ℕ → List (List ℕ) → Result Command Fault
named w ws = known (or_else (sketch_reading w ws) (queue_reading w ws))

-- whether a first word makes its line a comment: it begins with `#`
abbrev pub comment_word : List ℕ → Bool
comment_word [] = false
comment_word (b ∷ bs) = b == 35

-- a line that asks for something, where it is well formed
abbrev pub asks : Result Command Fault → Result (Option Command) Fault
asks (Ok c) = Ok (Some c)
asks (Err e) = Err e

-- what a line asks for: nothing where it has no word, or is a comment
abbrev pub line_of : List (List ℕ) → Result (Option Command) Fault
line_of [] = Ok None
line_of (w ∷ ws) = cond (comment_word w) (Ok None) (asks (named w ws))

-- The numbers by which causes are told.
use Rattle.std.specs.Prelude.{ℕ}
use Rattle.rules.specs.declared.departure.Cause.{Cause}
use Rattle.rules.specs.declared.departure.Cause.TheVariants.{LivedOut, IdledOut, Trimmed, Outvoted, StruckOut, SweptOut}

-- the number of a cause
abbrev pub cause_number : Cause → ℕ
cause_number LivedOut = 1
cause_number IdledOut = 2
cause_number Trimmed = 3
cause_number Outvoted = 4
cause_number StruckOut = 5
cause_number SweptOut = 6

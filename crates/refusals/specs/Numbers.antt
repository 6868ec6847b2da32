-- The numbers by which refusals are told.
use Rattle.std.specs.Prelude.{ℕ}
use Rattle.refusals.specs.declared.Refusal.{Refusal}
use Rattle.refusals.specs.declared.Refusal.TheVariants.{Cells, IndexLength, TooFewNodes, SketchWords, Capacity, BeyondRange, NoCell, NotLinked, NotFree}

abbrev pub refusal_number : Refusal → ℕ
refusal_number Cells = 1
refusal_number IndexLength = 2
refusal_number TooFewNodes = 3
refusal_number SketchWords = 4
refusal_number Capacity = 5
refusal_number BeyondRange = 6
refusal_number NoCell = 7
refusal_number NotLinked = 8
refusal_number NotFree = 9

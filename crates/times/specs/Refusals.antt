-- The numbers by which refusals are told.
use Rattle.std.specs.Prelude.{ℕ}
use Rattle.refusals.specs.declared.Refusal as all
use Rattle.refusals.specs.declared.Refusal.TheVariants as told
use Rattle.times.specs.declared.refusal.Refusal.{Refusal}
use Rattle.times.specs.declared.refusal.Refusal.TheVariants.{BeyondRange}

-- A number above 2^62 among all refusals.
abbrev pub refusal_of : Refusal → all.Refusal
refusal_of BeyondRange = told.BeyondRange

-- A number above 2^62 is told as 6.
abbrev pub refusal_number : Refusal → ℕ
refusal_number BeyondRange = 6

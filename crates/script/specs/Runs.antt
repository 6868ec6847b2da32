-- The runs of bytes at the front of a line, and what a borrowed word holds.
use Rattle.std.specs.Prelude.{ℕ, suc, Bool, true, false, cond, not, List, [], ◌∷◌, Some, None, Option}
use Rattle.std.specs.Borrow.{Bor}
use Rattle.script.specs.Lines.{blank}

-- whether a byte is blank, or is not, as asked for
abbrev pub as_asked : Bool → Bool → Bool
as_asked true b = b
as_asked false b = not b

-- how many bytes at the front are blank, or how many are not
abbrev pub leading : Bool → List ℕ → ℕ
leading k [] = 0
leading k (b ∷ bs) = cond (as_asked k (blank b)) (suc (leading k bs)) 0

-- what a borrowed word holds, where there is one
abbrev pub contents : Option (Bor (List ℕ)) → Option (List ℕ)
contents None = None
contents (Some w) = Some w.now

-- The words of a line.
use Rattle.std.specs.Prelude.{ℕ, Bool, cond, ◌||◌, List, [], ◌∷◌, Some, None, Option, ◌==◌}

-- a space, a tab or the line's end
abbrev pub blank : ℕ → Bool
blank b = (b == 32 || b == 9) || b == 10

-- a word before others, where it has a byte at all
abbrev pub before : List ℕ → List (List ℕ) → List (List ℕ)
before [] ws = ws
before (b ∷ bs) ws = (b ∷ bs) ∷ ws

-- the bytes up to the first blank, and the words behind it
abbrev pub parted : List ℕ → List ℕ × List (List ℕ)
parted [] = ([], [])
parted (b ∷ bs) = cond (blank b) ([], before (parted bs).0 (parted bs).1) (b ∷ (parted bs).0, (parted bs).1)

-- the words of a line, in their order: the longest runs of bytes that are not blank
abbrev pub words : List ℕ → List (List ℕ)
words line = before (parted line).0 (parted line).1

-- the first word, and those behind it
abbrev pub first : List (List ℕ) → Option (List ℕ)
first [] = None
first (w ∷ ws) = Some w

abbrev pub others : List (List ℕ) → List (List ℕ)
others [] = []
others (w ∷ ws) = ws

-- The words behind a command, and what a command asks for with them.
use Rattle.std.specs.Prelude.{ℕ, Bool, true, false, cond, List, [], ◌∷◌, length, take, drop, Some, None, Option, Ok, Err, Result, nat_lt}
use Rattle.std.specs.Str.{bytes_eq}
use Rattle.script.specs.declared.command.Command.{Command}
use Rattle.script.specs.declared.command.Fault.{Fault}
use Rattle.script.specs.declared.command.Fault.TheVariants.{WrongWords}
use Rattle.script.specs.Numerals.{numeral}

-- ---- the words behind a command

-- the only word, if there is just one
abbrev pub only : List (List ℕ) → Option (List ℕ)
only [] = None
only (w ∷ []) = Some w
only (w ∷ (v ∷ ws)) = None

-- the number that a word says behind a name, as in `words=128`
abbrev pub field : List ℕ → List ℕ → Option ℕ
field name w = cond (nat_lt (length w) (length name)) None (cond (bytes_eq (take (length name) w) name) (numeral (drop (length name) w)) None)

-- what f reads off a word, where there is one
abbrev pub in_word : Option (List ℕ) → (List ℕ → Option ℕ) → Option ℕ
in_word None f = None
in_word (Some w) f = f w

-- the number that the only word says
abbrev pub only_number : List (List ℕ) → Option ℕ
only_number ws = in_word (only ws) numeral

-- the number that the only word says behind a name
abbrev pub only_field : List ℕ → List (List ℕ) → Option ℕ
only_field name ws = in_word (only ws) (field name)

-- the two numbers that the only two words say
abbrev pub both : Option ℕ → Option ℕ → Option (ℕ × ℕ)
both None n = None
both (Some m) None = None
both (Some m) (Some n) = Some (m, n)

abbrev pub only_pair : List (List ℕ) → Option (ℕ × ℕ)
only_pair [] = None
only_pair (w ∷ ws) = both (numeral w) (only_number ws)

-- whether there is no word
abbrev pub none_left : List (List ℕ) → Bool
none_left [] = true
none_left (w ∷ ws) = false

-- ---- what is asked for

-- what a reader of one part's commands makes of a line: a command, or none of this part, or the wrong words for it
abbrev pub Asked : Type 0
Asked = Result (Option Command) Fault

-- what was read off the words behind a command
abbrev pub fitting : Option Command → Asked
fitting None = Err WrongWords
fitting (Some c) = Ok (Some c)

-- a command that takes one number
abbrev pub asking : Option ℕ → (ℕ → Command) → Asked
asking None f = Err WrongWords
asking (Some n) f = Ok (Some (f n))

-- a command that takes two
abbrev pub asking_pair : Option (ℕ × ℕ) → (ℕ → ℕ → Command) → Asked
asking_pair None f = Err WrongWords
asking_pair (Some p) f = Ok (Some (f p.0 p.1))

-- a command that takes no word
abbrev pub asking_alone : List (List ℕ) → Command → Asked
asking_alone [] c = Ok (Some c)
asking_alone (w ∷ ws) c = Err WrongWords

-- what one reader makes of a line, or another where the first knows no such command
abbrev pub or_else : Asked → Asked → Asked
or_else (Ok None) r = r
or_else (Ok (Some c)) r = Ok (Some c)
or_else (Err e) r = Err e

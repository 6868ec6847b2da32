-- The number that a word of digits says.
use Rattle.std.specs.Prelude.{ℕ, ◌+◌, ◌-◌, ◌*◌, ◌^◌, cond, List, [], ◌∷◌, Some, None, Option, nat_lt}

-- the digit b behind the number n: none where b is no digit, or the number would be 2^64 or above
abbrev pub with_digit : ℕ → ℕ → Option ℕ
with_digit n b = cond (nat_lt b 48) None (cond (nat_lt 57 b) None (cond (nat_lt (10 * n + (b - 48)) (2 ^ 64)) (Some (10 * n + (b - 48))) None))

-- what f makes of a number, where there is one
abbrev pub and_then : Option ℕ → (ℕ → Option ℕ) → Option ℕ
and_then None f = None
and_then (Some n) f = f n

-- the digits of a list behind the number n
abbrev pub with_digits : ℕ → List ℕ → Option ℕ
with_digits n [] = Some n
with_digits n (b ∷ bs) = and_then (with_digit n b) (λ m. with_digits m bs)

-- the number that a word says: one digit or more, below 2^64, leading zeros allowed
abbrev pub numeral : List ℕ → Option ℕ
numeral [] = None
numeral (b ∷ bs) = with_digits 0 (b ∷ bs)

-- An answer that is given only on a condition.
use Rattle.std.specs.Prelude.{ℕ, Bool, cond, Some, None, Option}

-- The number where the condition holds, and else none.
abbrev pub when : Bool → ℕ → Option ℕ
when b n = cond b (Some n) None

-- When something is over.
use Rattle.std.specs.Prelude.{ℕ, ◌+◌, Bool, false, Some, None, Option, nat_le}
use Rattle.times.specs.declared.nanos.Nanos.{Nanos}
use Rattle.times.specs.declared.nanos.Span.{Span}

-- Whether a span that began at an instant is over at another: when the two sum to no more than it.
abbrev pub over : ℕ → ℕ → ℕ → Bool
over span from now = nat_le (from + span) now

-- The same where there may be no span: then it is never over.
abbrev pub expired : Option ℕ → ℕ → ℕ → Bool
expired None from now = false
expired (Some span) from now = over span from now

-- The number of a duration, where there is one.
abbrev pub span_of : Option (Nanos Span) → Option ℕ
span_of None = None
span_of (Some span) = Some span.nanos

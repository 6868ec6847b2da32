-- What is certain of instants and of being over.
use Rattle.std.specs.Prelude.{◌≡◌, ℕ, ◌+◌, ◌^◌, ◌<◌, ◌≤◌, true, false, Option}
use Rattle.times.specs.declared.nanos.Nanos.{Nanos}
use Rattle.times.specs.declared.nanos.Point.{Point}
use Rattle.times.specs.declared.nanos.Span.{Span}
use Rattle.times.specs.Expiry.{over, expired}

-- What is over stays over.
abbrev pub ExpiryLasts : Type 0
ExpiryLasts = (span : Option ℕ) (from now later : ℕ) → now ≤ later → expired span from now ≡ true → expired span from later ≡ true

-- A span is over exactly at its end, and not a nanosecond before.
pub record Edge (span from : ℕ) : Type 0 where
  pub at_end : over span from (from + span) ≡ true
  pub before : (now : ℕ) → now < from + span → over span from now ≡ false

abbrev pub ExpiryEdge : Type 0
ExpiryEdge = (span from : ℕ) → Edge span from

-- No instant and duration sum to more than 2^63, which a 64-bit number holds.
abbrev pub SumsFit : Type 0
SumsFit = (from : Nanos Point) (span : Nanos Span) → from.nanos + span.nanos ≤ 2 ^ 63

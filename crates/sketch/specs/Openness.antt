-- What the meter of a sketch says of its table.
use Rattle.std.specs.Prelude.{ℕ, Option, None, Some}
use Rattle.sketch.specs.declared.meter.Meter.{Meter}

-- how many words the table has: none before the opening
abbrev pub table_len : Option Meter → ℕ
table_len None = 0
table_len (Some m) = m.table_len

-- Records with other instants, and when what began at an instant is over.
use Rattle.std.specs.Prelude.{ℕ, Bool, false, Some, None, Option}
use Rattle.times.specs.Expiry.{expired}
use Rattle.table.specs.declared.cell.Entry.{Entry}
use Rattle.records.specs.declared.touches.Touch.{Touch}
use Rattle.records.specs.declared.writes.Write.{Write}

-- a touch at an instant
abbrev pub touched_at : ℕ → Touch → Touch
touched_at n r = record { cell = r.cell; hash = r.hash; touched = n }

-- a write at an instant
abbrev pub written_at : ℕ → Write → Write
written_at n r = record { cell = r.cell; written = n }

-- an entry touched at an instant
abbrev pub entry_touched_at : {Key Value : Type 0} → ℕ → Entry Key Value → Entry Key Value
entry_touched_at n e = record { key = e.key; value = e.value; weight = e.weight; hash = e.hash; touched = n; written = e.written; ticket = e.ticket }

-- an entry written at an instant
abbrev pub entry_written_at : {Key Value : Type 0} → ℕ → Entry Key Value → Entry Key Value
entry_written_at n e = record { key = e.key; value = e.value; weight = e.weight; hash = e.hash; touched = e.touched; written = n; ticket = e.ticket }

-- Whether what began at an instant is over; without the instant it never is.
abbrev pub over_since : Option ℕ → Option ℕ → ℕ → Bool
over_since span None now = false
over_since span (Some from) now = expired span from now

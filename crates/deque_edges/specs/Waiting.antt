-- Who waits at a desk.
use Rattle.std.specs.Prelude.{ℕ, Bool, false, cond, List, length, Some, None, Option, nat_lt, slice_index}
use Rattle.deque.specs.Meaning.{items, lent, free}
use Rattle.deque_edges.specs.declared.Desk.{Desk}

-- those who wait, the first to be served in front, each with the time of coming
abbrev pub line_of : Desk → List (ℕ × ℕ)
line_of d = items d.line.now

-- whether number i can join the line: it has a name, and a place that is free
abbrev pub can_come : Desk → ℕ → Bool
can_come d i = cond (nat_lt i (length d.names.now)) (free (lent d.line.now) (line_of d) i) false

-- the name of number i
abbrev pub name_at : List ℕ → ℕ → Option ℕ
name_at ns i = cond (nat_lt i (length ns)) (Some (slice_index ns i)) None

-- the name of whoever is in front
abbrev pub called : List ℕ → Option (ℕ × ℕ) → Option ℕ
called ns None = None
called ns (Some p) = name_at ns p.0

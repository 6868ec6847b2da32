-- Where a link in memory leads.
use Rattle.std.specs.Prelude.{ℕ, cond, Some, None, Option, ◌==◌}
use Rattle.links.specs.declared.Link.{Link}

-- the number that stands for none, and so the most places that can be used
abbrev pub most : ℕ
most = 4294967295

-- the place that a link leads to, if it leads anywhere
abbrev pub goes_to : Link → Option ℕ
goes_to l = cond (l.number == most) None (Some l.number)

-- a link to place i
abbrev pub to_place : ℕ → Link
to_place i = record { number = i }

-- the link that leads nowhere
abbrev pub nowhere : Link
nowhere = record { number = most }

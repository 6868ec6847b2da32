-- What a booking weighs.
use Rattle.std.specs.Prelude.{ℕ}
use Rattle.kinds_edges.specs.declared.by_room.Size.{Size}
use Rattle.kinds_edges.specs.declared.by_room.Size.TheVariants.{Small, Large}

-- A small one 1, a large one 4.
abbrev pub size_weight : Size → ℕ
size_weight Small = 1
size_weight Large = 4

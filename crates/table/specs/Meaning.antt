-- What a table means: its state.
use Rattle.std.specs.Prelude.{ℕ, List, length}
use Rattle.table.specs.declared.lent.Table.{Table}
use Rattle.table.specs.declared.walk.Walk.{Walk}
use Rattle.table.specs.Chain.{State, link_of, first_of, walk, Sound}

-- what lies in the table's memory
abbrev pub state : {A B : Type 0} → Table A B → State A B
state t = record { cs = t.cells.now; hs = t.heads.now; used = t.used; free = t.free; held = t.held }

-- that its memory is sound, as a ghost field keeps it
abbrev pub Kept : {A B : Type 0} → Table A B → Type 0
Kept t = ∥ Sound (state t) ∥₁

-- the chain of a hash, in order
abbrev pub chain_from : {A B : Type 0} → State A B → ℕ → List ℕ
chain_from s hash = walk (link_of s.cs) (length s.cs) (first_of s hash)

-- the cells that a walk is still to come by
abbrev pub to_come : {A B : Type 0} → Walk A B → List ℕ
to_come w = walk (link_of w.cells.now) w.left w.here

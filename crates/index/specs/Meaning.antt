-- What an index holds: its meaning, as a function of its memory.
use Rattle.std.specs.Prelude.{ℕ, List, is_some, Option}
use Rattle.table.specs.declared.cell.Cell.{Cell}
use Rattle.table.specs.declared.cell.Content.{Content}
use Rattle.table.specs.declared.cell.Entry.{Entry}
use Rattle.links.specs.Places.{count}
use Rattle.table.specs.Chain.{State, entry_at, capacity}
use Rattle.table.specs.Meaning.{state}
use Rattle.kinds.specs.declared.EntryKind.{Ghosts}
use Rattle.index.specs.declared.kept.Index.{Index}

-- the memory as it lies
unfoldable pub parts : {K A B : Type 0} {m : Ghosts K A B} → Index K A B m → State A B
parts x = state x.table

-- the entry of cell j, if it is held: all that a caller sees
unfoldable pub entries : {K A B : Type 0} {m : Ghosts K A B} → Index K A B m → ℕ → Option (Entry A B)
entries x j = entry_at (state x.table) j

-- how many cells can be held
unfoldable pub capacity_in : {K A B : Type 0} {m : Ghosts K A B} → Index K A B m → ℕ
capacity_in x = capacity (state x.table)

-- how many cells are held
unfoldable pub held_in : {K A B : Type 0} {m : Ghosts K A B} → Index K A B m → ℕ
held_in x = count (λ j. is_some (entry_at (state x.table) j)) (capacity (state x.table))

-- the lent cells as they lie
unfoldable pub memory : {K A B : Type 0} {m : Ghosts K A B} → Index K A B m → List (Cell A B)
memory x = (state x.table).cs

-- a new entry: its hash is that of its key
abbrev pub made : {A B : Type 0} → (A → ℕ) → A → Content B → ℕ → Entry A B
made hashed k c n = record { key = k; value = c.value; weight = c.weight; hash = hashed k; touched = c.touched; written = c.written; ticket = n }

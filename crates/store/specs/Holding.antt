-- Entries over cells and places: what lies in a cell, and which records the two orders have of it.
use Rattle.std.specs.Prelude.{◌≡◌, ℕ, List, [], ◌∷◌, Some, None, Option}
use Rattle.std.specs.Option.{option_map}
use Rattle.deque.specs.Meaning.{found}
use Rattle.table.specs.declared.cell.Entry.{Entry as Stored}
use Rattle.records.specs.declared.touches.Touch.{Touch}
use Rattle.records.specs.declared.writes.Write.{Write}
use Rattle.rules.specs.Entries.{Entry}
use Rattle.rules.specs.Fronts.{ahead}

module _ {Key Value : Type 0} where
  -- the entry that lies in cell i
  abbrev pub entry_of : ℕ → Stored Key Value → Entry Key Value
  entry_of i c = record {
    cell = i;
    key = c.key;
    value = c.value;
    weight = c.weight;
    hash = c.hash;
    touched = c.touched;
    written = c.written;
    ticket = c.ticket;
  }

  -- the entries of these cells, in their order
  abbrev pub held_at : (ℕ → Option (Stored Key Value)) → List ℕ → List (Entry Key Value)
  held_at at [] = []
  held_at at (i ∷ is) = ahead (option_map (entry_of i) (at i)) (held_at at is)

  -- the touch order's record of what lies in cell i
  abbrev pub touch_of : ℕ → Stored Key Value → Touch
  touch_of i c = record { cell = i; hash = c.hash; touched = c.touched }

  -- the write order's
  abbrev pub write_of : ℕ → Stored Key Value → Write
  write_of i c = record { cell = i; written = c.written }

  -- a queue has a record of each cell with an entry, and of no other
  abbrev pub Follows : {T : Type 0} → (ℕ → Stored Key Value → T) → (ℕ → Option (Stored Key Value)) → List (ℕ × T) → Type 0
  Follows f at ps = (j : ℕ) → found j ps ≡ option_map (f j) (at j)

-- what is kept only with a life
abbrev pub with_life : {A : Type 0} → Option ℕ → Option A → Option A
with_life None o = None
with_life (Some d) o = o

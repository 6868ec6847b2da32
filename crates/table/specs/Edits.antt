-- Writes: the state that each leaves.
use Rattle.std.specs.Prelude.{ℕ, zero, suc, ◌+◌, ◌-◌, ◌%◌, true, false, List, [], ◌∷◌, length, Some, None, Option, slice_set}
use Rattle.std.specs.List.{slice_get}
use Rattle.table.specs.declared.cell.Cell.{Cell}
use Rattle.table.specs.declared.cell.Content.{Content}
use Rattle.table.specs.declared.cell.Entry.{Entry}
use Rattle.links.specs.declared.Link.{Link}
use Rattle.links.specs.Links.{to_place, nowhere}
use Rattle.links.specs.Places.{pick}
use Rattle.table.specs.Chain.{State}

-- f of what lies at place i
abbrev pub edited : {X : Type 0} → (X → X) → List X → ℕ → List X
edited f [] i = []
edited f (n ∷ ns) zero = f n ∷ ns
edited f (n ∷ ns) (suc i) = n ∷ edited f ns i

-- f at a place that may be none
abbrev pub edited_at : {X : Type 0} → (X → X) → List X → Option ℕ → List X
edited_at f ns None = ns
edited_at f ns (Some i) = edited f ns i

-- the same entry with another content: the key, its hash and the ticket stay
abbrev pub anew : {A B : Type 0} → Content B → Entry A B → Entry A B
anew c e = record { key = e.key; value = c.value; weight = c.weight; hash = e.hash; touched = c.touched; written = c.written; ticket = e.ticket }

-- the same cell with another link
abbrev pub chain_to : {A B : Type 0} → Link → Cell A B → Cell A B
chain_to v c = record { entry = c.entry; held = c.held; chain = v }

-- a held cell
abbrev pub filled : {A B : Type 0} → Entry A B → Link → Cell A B
filled e v = record { entry = e; held = true; chain = v }

-- a free cell: its entry means nothing
abbrev pub emptied : {A B : Type 0} → Entry A B → Link → Cell A B
emptied e v = record { entry = e; held = false; chain = v }

-- the link at a head
abbrev pub link_or : Option Link → Link
link_or None = nowhere
link_or (Some l) = l

-- ---- states
-- other cells
abbrev pub with_cells : {A B : Type 0} → State A B → List (Cell A B) → State A B
with_cells s cs = record { cs = cs; hs = s.hs; used = s.used; free = s.free; held = s.held }

-- cell i in front of the chain of its hash
abbrev pub join_state : {A B : Type 0} → State A B → ℕ → Entry A B → State A B
join_state s i e =
    record {
      cs = slice_set s.cs i (filled e (link_or (slice_get s.hs (e.hash % length s.hs))));
      hs = slice_set s.hs (e.hash % length s.hs) (to_place i);
      used = s.used;
      free = s.free;
      held = s.held + 1;
    }

-- a free cell, or one never used, is about to be taken
abbrev pub freed : {A B : Type 0} → State A B → ℕ → Link → State A B
freed s u f = record { cs = s.cs; hs = s.hs; used = u; free = f; held = s.held }

-- the link behind p, or the head of chain b, is v
abbrev pub relinked : {A B : Type 0} → State A B → Option ℕ → ℕ → Link → State A B
relinked s p b v =
    record {
      cs = edited_at (chain_to v) s.cs p;
      hs = pick p (slice_set s.hs b v) s.hs;
      used = s.used;
      free = s.free;
      held = s.held;
    }

-- cell i in front of the free ones
abbrev pub vacated : {A B : Type 0} → State A B → ℕ → Entry A B → State A B
vacated s i e = record { cs = slice_set s.cs i (emptied e s.free); hs = s.hs; used = s.used; free = to_place i; held = s.held - 1 }

-- cell i out of chain b, where p stands before it and v leads on, and in front of the free ones
abbrev pub part_state : {A B : Type 0} → State A B → ℕ → Entry A B → Option ℕ → ℕ → Link → State A B
part_state s i e p b v = vacated (relinked s p b v) i e

-- another entry in cell i, which stays in its chain
abbrev pub renew_state : {A B : Type 0} → State A B → ℕ → Entry A B → Link → State A B
renew_state s i e v = with_cells s (slice_set s.cs i (filled e v))

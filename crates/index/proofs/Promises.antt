-- What holds of every index, for callers.
use Rattle.std.proofs.Common.{◌≡◌, ℕ, ◌^◌, ◌<◌, ◌≤◌, Bool, true, false, eqb, length, is_some, Some, None, Option, sym, refl, ap, ◌∙◌, inl, inr, arith}
use Rattle.std.proofs.lemmas.Bool.Decides.{nat_tests}
use Rattle.std.proofs.lemmas.Bool.{cases_lt}
use Rattle.table.specs.declared.cell.Entry.{Entry}
use Rattle.table.specs.Chain.{capacity, live, entry_at, Sound}
use Rattle.table.specs.Meaning.{state}
use Rattle.links.proofs.Orders
use Rattle.table.proofs.Soundness as sound
use Rattle.kinds.specs.declared.EntryKind.{Ghosts}
use Rattle.index.specs.declared.kept.Index.{Index}
use Rattle.index.specs.Meaning.{parts, entries, capacity_in, held_in}
use Rattle.index.specs.Lawful.{hit, Finds}
use Rattle.index.specs.Layout.{Layout}
use Rattle.index.proofs.Layouts
use Rattle.index.proofs.Counting

module _ {K A B : Type 0} {m : Ghosts K A B} (x : Index K A B m) where
  -- its memory is sound
  pub whole : Sound (state x.table)
  whole = sound.out (state x.table) x.sound

  -- its memory lies as the layout says
  pub laid : Layout (parts x)
  unfolding parts
  laid = Layouts.layout (state x.table) whole

  -- a held cell can be held
  pub within : (j : ℕ) → is_some (entries x j) ≡ true → j < capacity_in x
  unfolding entries capacity_in
  within j e = elim (cases_lt j (capacity (state x.table))) [
    | inl l ↦ l
    | inr l ↦ absurd (Orders.both_ways (ap is_some ((Layouts.layout (state x.table) whole).beyond j l)) e)
  ]

  -- the number of cells fits 32 bits
  pub few : capacity_in x < 2 ^ 32
  unfolding capacity_in
  few = let a = sound.capacity_most (length (state x.table).cs) (length (state x.table).hs) in omega arith

  -- no more are held than can be
  pub held_below : held_in x ≤ capacity_in x
  unfolding held_in capacity_in
  held_below = Orders.count_all (live (state x.table)) (capacity (state x.table))

  -- where a cell is not held there is room
  pub room : (i : ℕ) → i < capacity_in x → entries x i ≡ None → held_in x < capacity_in x
  unfolding entries held_in capacity_in
  room i l e = Counting.room (state x.table) i l e

  -- where there is no room every cell is held
  pub full : capacity_in x ≤ held_in x → (j : ℕ) → j < capacity_in x → is_some (entries x j) ≡ true
  unfolding entries held_in capacity_in
  full h = Orders.full_count (live (state x.table)) (capacity (state x.table)) h

  -- where none is held, no cell is
  pub empty : held_in x ≡ 0 → (j : ℕ) → entries x j ≡ None
  unfolding entries held_in capacity_in
  empty h j = no_entry (entry_at (state x.table) j) (λ t. some_held t)
    where
      no_entry : (o : Option (Entry A B)) → (is_some o ≡ true → ⊥) → o ≡ None
      no_entry None k = refl
      no_entry (Some e) k = absurd (k refl)

      some_held : is_some (entry_at (state x.table) j) ≡ true → ⊥
      some_held t =
          elim (cases_lt j (capacity (state x.table))) [
            | inl l ↦ let a = Orders.count_some (live (state x.table)) j (capacity (state x.table)) l t in omega arith
            | inr l ↦ Orders.both_ways (ap is_some ((Layouts.layout (state x.table) whole).beyond j l)) t
          ]

-- ---- the answer of a search
module _ {A B : Type 0} (alike : A → A → Bool) (f : ℕ → Option (Entry A B)) (k : A) where
  -- none found: no held key is the same
  pub found_none : Finds alike f k None → (j : ℕ) → hit alike (f j) k ≡ false
  found_none h j = h.exactly j

  -- cell i found: its key is the same
  pub found_here : (i : ℕ) → Finds alike f k (Some i) → hit alike (f i) k ≡ true
  found_here i h = h.exactly i ∙ grind (arith, nat_tests)

  -- and no other's is
  pub found_only : (i j : ℕ) → Finds alike f k (Some i) → hit alike (f j) k ≡ true → j ≡ i
  found_only i j h t = let e : eqb j i ≡ true = sym (h.exactly j) ∙ t in grind (arith, nat_tests)

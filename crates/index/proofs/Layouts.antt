-- What is certain of the memory of a sound state: each held cell is in the chain of its hash, each cell is held or
-- free.
use Rattle.std.proofs.Common.{◌≡◌, ℕ, ◌%◌, ◌<◌, true, false, not, eqb, ltb, length, is_some, Some, Option, sym, ap, ◌∙◌, inl, inr, arith}
use Rattle.std.specs.List.{slice_get}
use Rattle.std.proofs.lemmas.Bool.Decides.{nat_tests}
use Rattle.std.proofs.lemmas.Bool.{cases_Bool, lt-ltb}
use Rattle.table.specs.declared.cell.Cell.{Cell}
use Rattle.table.specs.declared.lent.Table.{Table}
use Rattle.links.specs.Places.{is, has}
use Rattle.table.specs.Chain.{State, capacity, spot_in, entry_in, chain, Sound}
use Rattle.table.specs.Meaning.{state}
use Rattle.table.proofs.Memory
use Rattle.table.proofs.Soundness as sound
use Rattle.table.proofs.Outcomes as outcomes
use Rattle.index.specs.Layout.{HeldOrFree, InItsChain, OnlyHeld, Layout}

module _ {A B : Type 0} where
  in_its_chain : (s : State A B) → Sound s → InItsChain s
  in_its_chain s h j e q b = sym ((h.chains b).holds j) ∙ ap (λ (o : Option ℕ). is o b) (sound.held_spot s j e q)

  only_held : (s : State A B) → Sound s → OnlyHeld s
  only_held s h j b l t = let e = sound.chain_entry s j b ((h.chains b).holds j ∙ t) l in ap is_some e.1

  -- a used cell is free exactly where it is not marked
  used_either : (n : ℕ) (c : Cell A B) → 0 < n → is (spot_in n (Some c)) n ≡ not (is_some (entry_in (Some c)))
  used_either n c p = elim (cases_Bool c.held) [
    | inl t ↦ let m = sound.mod_below c.entry.hash n p in let z : eqb n (c.entry.hash % n) ≡ false = grind (arith, nat_tests) in rw t z
    | inr t ↦ let z : eqb n n ≡ true = grind (arith, nat_tests) in rw t z
  ]

  held_or_free : (s : State A B) → Sound s → HeldOrFree s
  held_or_free s h j l = elim (cases_Bool (ltb j s.used)) [
    | inl t ↦
        let n = sound.capacity_heads (length s.cs) (length s.hs) j l in
        let k = sound.capacity_cells (length s.cs) (length s.hs) in
        let c = Memory.nth_some s.cs j (omega arith) in
        let a : has (chain s (length s.hs)) j ≡ is (spot_in (length s.hs) (slice_get s.cs j)) (length s.hs) = sym ((h.chains (length s.hs)).holds j) ∙ rw t in
        let b : is (spot_in (length s.hs) (slice_get s.cs j)) (length s.hs) ≡ not (is_some (entry_in (slice_get s.cs j))) =
        ap (λ (o : Option (Cell A B)). is (spot_in (length s.hs) o) (length s.hs)) c.1 ∙ used_either (length s.hs) c.0 n ∙ sym (ap (λ (o : Option (Cell A B)). not (is_some (entry_in o))) c.1) in
        rw t (a ∙ b)
    | inr t ↦ rw t (lt-ltb j (capacity s) l)
  ]

  pub layout : (s : State A B) → Sound s → Layout s
  layout s h = record {
    stands = in_its_chain s h;
    only = only_held s h;
    once = λ b. (h.chains b).apart;
    either = held_or_free s h;
    beyond = λ j l. let u = h.size in outcomes.past_entry s j (omega arith);
  }

  -- memory that is sound lies so
  pub laid : (t : Table A B) → Sound (state t) → ∥ Layout (state t) ∥₁
  laid t h = ∣ layout (state t) h ∣₁

-- States whose cells are told apart.
use Rattle.std.specs.Prelude.{ℕ, ◌≤◌, nat_eq}
use Rattle.rules.specs.Fronts.{tally}
use Rattle.rules.specs.Entries.{Entry, State}

module _ {Key Value : Type 0} where
  -- no two entries share a cell, and no cell stands twice in the write order
  pub record Apart (s : State Key Value) : Type 0 where
    pub cells : (n : ℕ) → tally (λ (e : Entry Key Value). nat_eq e.cell n) s.touch ≤ 1
    pub once : (n : ℕ) → tally (λ m. nat_eq m n) s.write ≤ 1

-- The numbers that a cache keeps beside its entries.
use Rattle.std.specs.Prelude.{◌≡◌, ◌^◌, ◌<◌, ◌≤◌, List, length}
use Rattle.rules.specs.Fronts.{total, In}
use Rattle.rules.specs.declared.choices.Choices.{Choices}
use Rattle.rules.specs.Kinds.{Kind}
use Rattle.rules.specs.Entries.{Sizes, Entry, State, fresh}
use Rattle.rules.specs.Runs.{Turn}
use Rattle.rules.specs.Account.{AllFree, state_after}

-- The recorded weight is the sum of the weights held, the entry count is how many are held, and no more are held than there are cells.
pub record AddsUp {Key Value : Type 0} (sizes : Sizes) (s : State Key Value) : Type 0 where
  pub recorded : s.recorded ≡ total (λ (e : Entry Key Value). e.weight) s.touch
  pub count : s.count ≡ length s.touch
  pub room : length s.touch ≤ sizes.cells
  pub light : (e : Entry Key Value) → In e s.touch → e.weight < 2 ^ 32

-- after every list of fewer than 2^32 calls on a fresh cache
abbrev pub SumsOf : {Key Value : Type 0} → Kind Key Value → Type 0
SumsOf {Key} {Value} kind =
    (choices : Choices) (sizes : Sizes) → sizes.cells ≤ 4096
    → (ts : List (Turn Key Value)) → length ts < 2 ^ 32 → AllFree kind choices sizes fresh ts
    → AddsUp sizes (state_after kind choices sizes ts)

-- A list of calls, and what is told of it.
use Rattle.std.specs.Prelude.{ℕ, List, [], ◌∷◌}
use Rattle.rules.specs.declared.choices.Choices.{Choices}
use Rattle.rules.specs.declared.call.Call.{Call}
use Rattle.rules.specs.declared.answer.Answer.{Answer}
use Rattle.rules.specs.declared.departure.Departure.{Departure}
use Rattle.rules.specs.Kinds.{Kind}
use Rattle.rules.specs.Entries.{Sizes, State}
use Rattle.rules.specs.Calls.{step}

-- a call, with the free cell that the cache would choose at it
pub record Turn (Key Value : Type 0) : Type 0 where
  pub free : ℕ
  pub call : Call Key Value

-- what is told of a call: its arguments, its answer, and who left
pub record Line (Key Value : Type 0) : Type 0 where
  pub call : Call Key Value
  pub answer : Answer Value
  pub departures : List Departure

module _ {Key Value : Type 0} (kind : Kind Key Value) (choices : Choices) (sizes : Sizes) where
  -- the state after a call
  abbrev pub after : State Key Value → Turn Key Value → State Key Value
  after s t = (step kind choices sizes t.free s t.call).state

  -- what is told of a call
  abbrev pub line : State Key Value → Turn Key Value → Line Key Value
  line s t = record {
    call = t.call;
    answer = (step kind choices sizes t.free s t.call).answer;
    departures = (step kind choices sizes t.free s t.call).departures;
  }

  -- the state after the calls of a list
  unfoldable pub end : State Key Value → List (Turn Key Value) → State Key Value
  end s [] = s
  end s (t ∷ ts) = end (after s t) ts

  -- what is told of the calls of a list
  unfoldable pub log : State Key Value → List (Turn Key Value) → List (Line Key Value)
  log s [] = []
  log s (t ∷ ts) = line s t ∷ log (after s t) ts

-- The value last taken in: what a log alone says of it.
use Rattle.std.specs.Prelude.{◌≡◌, ℕ, ◌^◌, ◌<◌, cond, List, [], ◌∷◌, length, Some, None, Option}
use Rattle.rules.specs.Fronts.{among, In}
use Rattle.rules.specs.declared.choices.Choices.{Choices}
use Rattle.rules.specs.declared.call.Call.{Call}
use Rattle.rules.specs.declared.call.Call.TheVariants.{Get, Contains, Insert, Invalidate, InvalidateAll}
use Rattle.rules.specs.declared.answer.Answer.{Answer}
use Rattle.rules.specs.declared.answer.Answer.TheVariants.{Hit, Miss, Yes, No, New, Replaced, TurnedAway, Struck, Absent, Swept, Refused}
use Rattle.rules.specs.Kinds.{Kind}
use Rattle.rules.specs.Entries.{Sizes, fresh}
use Rattle.rules.specs.Items.{Item}
use Rattle.rules.specs.Runs.{Turn, Line}
use Rattle.rules.specs.Account.{AllFree, log_of, ledger_after}

-- the value that a call gives
abbrev pub value_given : {Key Value : Type 0} → Call Key Value → Option Value
value_given (Get k now) = None
value_given (Contains k now) = None
value_given (Insert k v now) = Some v
value_given (Invalidate k now) = None
value_given InvalidateAll = None

-- the ticket under which an answer says that it was taken in
abbrev pub ticket_given : {Value : Type 0} → Answer Value → List ℕ
ticket_given (Hit v) = []
ticket_given Miss = []
ticket_given Yes = []
ticket_given No = []
ticket_given (New t) = t ∷ []
ticket_given (Replaced t) = t ∷ []
ticket_given TurnedAway = []
ticket_given Struck = []
ticket_given Absent = []
ticket_given Swept = []
ticket_given (Refused why) = []

module _ {Key Value : Type 0} where
  -- the value taken in under a ticket at a line, or else the one before
  abbrev pub taken_at : Line Key Value → ℕ → Option Value → Option Value
  taken_at x t before = cond (among (ticket_given x.answer) t) (value_given x.call) before

  -- the value last taken in under a ticket in a log, or else the one before
  unfoldable pub last_taken : ℕ → Option Value → List (Line Key Value) → Option Value
  last_taken t before [] = before
  last_taken t before (x ∷ xs) = last_taken t (taken_at x t before) xs

-- each item's value is the one last taken in under its ticket, after every list of fewer than 2^32 calls on a fresh cache
abbrev pub ValuesOf : {Key Value : Type 0} → Kind Key Value → Type 0
ValuesOf {Key} {Value} kind =
    (choices : Choices) (sizes : Sizes) (ts : List (Turn Key Value)) → length ts < 2 ^ 32 → AllFree kind choices sizes fresh ts
    → (i : Item Key Value) → In i (ledger_after kind choices sizes ts).touch → last_taken i.ticket None (log_of kind choices sizes ts) ≡ Some i.value

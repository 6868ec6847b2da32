-- What a served list of calls promises, said of its log alone and of the cache at the end.
use Rattle.std.specs.Prelude.{◌≡◌, ℕ, ◌+◌, ◌^◌, ◌<◌, ◌≤◌, List, [], ◌∷◌, ◌++◌, length, take}
use Rattle.rules.specs.declared.choices.Choices.{Choices}
use Rattle.rules.specs.declared.call.Call.{Call}
use Rattle.rules.specs.Kinds.{Kind}
use Rattle.rules.specs.Entries.{Sizes, State, fresh}
use Rattle.rules.specs.Passes.{cells_of}
use Rattle.rules.specs.Calls.{Outcome, step}
use Rattle.rules.specs.Runs.{Turn, Line, end, log}
use Rattle.rules.specs.Items.{Ledger, empty, tickets_of}
use Rattle.rules.specs.Ledger.{handing, entered, follow}
use Rattle.rules.specs.Account.{Accounted, times, told_tickets, all_told, all_handed, held_tickets, EachHadItem, Right, AllFree}
use Rattle.rules.specs.Agreement.{Agrees}
use Rattle.rules.specs.Limits.{top}

module _ {Key Value : Type 0} (kind : Kind Key Value) (choices : Choices) (sizes : Sizes) where
  -- The ledger l goes through the lines of a log. Before each and after all, the tickets told and handed out so far are
  -- accounted for; at each, the tickets told have items, and the answer and the departures are right by the ledger as it then stands.
  unfoldable pub Through : Ledger Key Value → List ℕ → List ℕ → List (Line Key Value) → Type 0
  Through l told handed [] = Accounted told handed (tickets_of l.touch)
  Through l told handed (x ∷ xs) =
      Accounted told handed (tickets_of l.touch)
      × EachHadItem l x.departures
      × Right kind choices sizes l x.call x.answer x.departures
      × Through (entered kind choices sizes l x.call x.answer x.departures) (told ++ told_tickets x.departures) (handed ++ handing x.answer) xs

  -- from a state these lines are told, and another state is left, by some turns with cells that were free
  pub record Ran (start : State Key Value) (lines : List (Line Key Value)) (s : State Key Value) : Type 0 where
    pub turns : List (Turn Key Value)
    pub told : log kind choices sizes start turns ≡ lines
    pub ends : end kind choices sizes start turns ≡ s
    pub free : AllFree kind choices sizes start turns

  -- A fresh cache with this log, and with this state at its end.
  pub record Served (lines : List (Line Key Value)) (s : State Key Value) : Type 0 where
    pub through : Through empty [] [] lines
    -- the entries held bear the items' tickets in turn
    pub in_turn : held_tickets s ≡ tickets_of (follow kind choices sizes empty lines).touch
    -- and so they did after each call on the way
    pub on_the_way :
        (n : ℕ)
        → (then : State Key Value) × Ran fresh (take n lines) then × (held_tickets then ≡ tickets_of (follow kind choices sizes empty (take n lines)).touch)

  -- A cache that went on from a ledger that agreed with it: the ledger goes through the lines, and agrees again at their end.
  pub record WentOn (l : Ledger Key Value) (told handed : List ℕ) (lines : List (Line Key Value)) (s : State Key Value) : Type 0 where
    pub through : Through l told handed lines
    pub in_turn : held_tickets s ≡ tickets_of (follow kind choices sizes l lines).touch
    pub agrees : Agrees kind s (follow kind choices sizes l lines) (told ++ all_told lines) (handed ++ all_handed lines)

  -- What one call has to promise: its outcome is the defined one, for some cell that is nobody else's afterwards.
  pub record Does (s : State Key Value) (c : Call Key Value) (o : Outcome Key Value) : Type 0 where
    pub free : ℕ
    pub alone : times free (cells_of o.state.touch) ≤ 1
    pub steps : step kind choices sizes free s c ≡ o

-- every log of fewer than 2^32 calls on a fresh cache
abbrev pub ServedOf : {Key Value : Type 0} → Kind Key Value → Type 0
ServedOf {Key} {Value} kind =
    (choices : Choices) (sizes : Sizes) (lines : List (Line Key Value)) (s : State Key Value)
    → Ran kind choices sizes fresh lines s → length lines < 2 ^ 32 → Served kind choices sizes lines s

-- every log of a cache that goes on, as long as tickets last
abbrev pub GoesOnOf : {Key Value : Type 0} → Kind Key Value → Type 0
GoesOnOf {Key} {Value} kind =
    (choices : Choices) (sizes : Sizes) (start : State Key Value) (l : Ledger Key Value) (told handed : List ℕ) → Agrees kind start l told handed
    → (lines : List (Line Key Value)) (s : State Key Value) → Ran kind choices sizes start lines s → start.next + length lines < top
    → WentOn kind choices sizes l told handed lines s

-- a fresh cache agrees with the empty ledger
abbrev pub FreshAgrees : {Key Value : Type 0} → Kind Key Value → Type 0
FreshAgrees kind = Agrees kind fresh empty [] []

-- What holds of every list of calls.
use Rattle.std.specs.Prelude.{◌≡◌, ℕ, ◌^◌, ◌<◌, ◌≤◌, true, false, cond, ◌≢◌, ◌⊎◌, List, [], ◌∷◌, ◌++◌, map, length, take, Some, None, Option, nat_eq, nat_le}
use Rattle.rules.specs.Fronts.{In, tally}
use Rattle.sketch.specs.Sketches.{frequency}
use Rattle.rules.specs.declared.choices.Choices.{Choices}
use Rattle.rules.specs.declared.call.Call.{Call}
use Rattle.rules.specs.declared.call.Call.TheVariants.{Get, Contains, Insert, Invalidate, InvalidateAll}
use Rattle.rules.specs.declared.answer.Answer.{Answer}
use Rattle.rules.specs.declared.answer.Answer.TheVariants.{Hit, Miss, Yes, No, New, Replaced, TurnedAway, Struck, Absent, Swept, Refused}
use Rattle.refusals.specs.declared.Refusal.TheVariants.{BeyondRange, NoCell}
use Rattle.rules.specs.declared.departure.Cause.TheVariants.{Outvoted, StruckOut, SweptOut}
use Rattle.rules.specs.declared.departure.Departure.{Departure}
use Rattle.rules.specs.Kinds.{Kind}
use Rattle.rules.specs.Entries.{Sizes, Entry, State, fresh}
use Rattle.rules.specs.Limits.{latest, within}
use Rattle.rules.specs.Passes.{cells_of}
use Rattle.rules.specs.Runs.{Turn, Line, after, line, end, log}
use Rattle.rules.specs.Items.{Item, Ledger, empty, tickets_of, weight_of, telling, lapsed, clearing}
use Rattle.rules.specs.Ledger.{settled, handing, takes_in, item_of, popularity_of, fitting, follow}

-- ---- every entry is accounted for

-- how often a number is in a list
abbrev pub times : ℕ → List ℕ → ℕ
times n xs = tally (λ x. nat_eq x n) xs

-- Of the tickets told to have left, those handed out, and those held: only tickets handed out are told,
-- each at most once, and those not told are exactly the ones held.
pub record Accounted (told handed held : List ℕ) : Type 0 where
  pub only_handed : (t : ℕ) → 0 < times t told → 0 < times t handed
  pub once : (t : ℕ) → times t told ≤ 1
  pub others_held : (t : ℕ) → 0 < times t handed → times t told ≡ 0 → 0 < times t held
  pub held_others : (t : ℕ) → 0 < times t held → (0 < times t handed) × (times t told ≡ 0)

-- the tickets of departures
abbrev pub told_tickets : List Departure → List ℕ
told_tickets ds = map (λ (d : Departure). d.ticket) ds

module _ {Key Value : Type 0} where
  -- all tickets told in a log
  unfoldable pub all_told : List (Line Key Value) → List ℕ
  all_told [] = []
  all_told (x ∷ xs) = told_tickets x.departures ++ all_told xs

  -- all tickets handed out in a log
  unfoldable pub all_handed : List (Line Key Value) → List ℕ
  all_handed [] = []
  all_handed (x ∷ xs) = handing x.answer ++ all_handed xs

  -- the tickets of the entries held, longest untouched first
  abbrev pub held_tickets : State Key Value → List ℕ
  held_tickets s = map (λ (e : Entry Key Value). e.ticket) s.touch

  -- each ticket told has an item in the ledger, as it stands before the call
  abbrev pub EachHadItem : Ledger Key Value → List Departure → Type 0
  EachHadItem l ds = (t : ℕ) → times t (told_tickets ds) ≤ times t (tickets_of l.touch)

-- ---- every hit is in its time; l is the ledger as the call finds it, after its passes

module _ {Key Value : Type 0} (kind : Kind Key Value) (choices : Choices) where
  -- the item is the key's, and its times still run
  abbrev pub Running : Ledger Key Value → Key → ℕ → Item Key Value → Type 0
  Running l k now i = In i l.touch × (kind.alike i.key k ≡ true) × (lapsed choices now i ≡ false)

  -- a get hits exactly when the key's item is held and its times still run, and hands out its value
  pub record HitsRight (l : Ledger Key Value) (k : Key) (now : ℕ) (a : Answer Value) : Type 0 where
    pub hit : (i : Item Key Value) → Running l k now i → a ≡ Hit i.value
    pub hit_only : (v : Value) → a ≡ Hit v → (i : Item Key Value) × Running l k now i × (v ≡ i.value)
    pub miss_otherwise : ((i : Item Key Value) → Running l k now i → ⊥) → a ≡ Miss

-- ---- who gets in

module _ {Key Value : Type 0} (kind : Kind Key Value) where
  -- the run of the n longest untouched frees the newcomer's weight with less popularity
  pub record Run (l : Ledger Key Value) (k : Key) (v : Value) (n : ℕ) : Type 0 where
    pub there : n ≤ length l.touch
    pub frees : kind.weighs k v ≤ weight_of (take n l.touch)
    pub less_popular : popularity_of kind l.sketch (take n l.touch) < frequency l.sketch (kind.hashed k)

  -- the shortest such run
  pub record Shortest (l : Ledger Key Value) (k : Key) (v : Value) (n : ℕ) : Type 0 where
    pub run : Run l k v n
    pub least : (m : ℕ) → Run l k v m → n ≤ m

module _ {Key Value : Type 0} (kind : Kind Key Value) (choices : Choices) (sizes : Sizes) where
  -- a newcomer's weight alone is within the capacity
  abbrev pub Within : Key → Value → Type 0
  Within k v = within choices.capacity (kind.weighs k v) ≡ true

  -- the newcomer is due in, nobody leaves for it, and no cell is free
  pub record NoCellFree (l : Ledger Key Value) (k : Key) (v : Value) : Type 0 where
    pub taken : sizes.cells ≤ length l.touch
    pub due : (fitting kind choices l k v ≡ true) ⊎ (Within k v × Shortest kind l k v 0)

  -- A newcomer: rest is what the call tells beyond its passes.
  pub record NewcomerRight (l : Ledger Key Value) (k : Key) (v : Value) (a : Answer Value) (rest : List Departure) : Type 0 where
    -- refused exactly when due in with nobody leaving and no cell free, and nobody leaves
    pub refused : NoCellFree l k v → a ≡ Refused NoCell
    pub refused_only : a ≡ Refused NoCell → NoCellFree l k v × (rest ≡ [])
    -- one that fits gets in, and nobody leaves for it
    pub fits_in : fitting kind choices l k v ≡ true → a ≢ Refused NoCell → (a ≡ New l.next) × (rest ≡ [])
    -- one that doesn't fit gets in exactly when it is within capacity and some run frees its weight with less popularity
    pub votes_in : fitting kind choices l k v ≡ false → a ≢ Refused NoCell → Within k v → (n : ℕ) → Run kind l k v n → a ≡ New l.next
    -- then the shortest such run leaves, front first
    pub in_by_vote :
        fitting kind choices l k v ≡ false → takes_in a ≡ true
        → Within k v × ((n : ℕ) × Shortest kind l k v n × (rest ≡ telling Outvoted (take n l.touch)))
    -- a newcomer taken in has the next ticket
    pub next_ticket : takes_in a ≡ true → a ≡ New l.next
    -- another is turned away, and nobody leaves
    pub turned_away : takes_in a ≡ false → a ≢ Refused NoCell → (a ≡ TurnedAway) × (rest ≡ [])

-- ---- a line, as the ledger checks it

-- an instant too late: refused, and nobody leaves
pub record Late {Value : Type 0} (a : Answer Value) (ds : List Departure) : Type 0 where
  pub answer : a ≡ Refused BeyondRange
  pub nobody : ds ≡ []

-- right, where the instant is not too late
abbrev pub Timely : {Value : Type 0} → ℕ → Answer Value → List Departure → Type 0 → Type 0
Timely now a ds P = cond (nat_le now latest) P (Late a ds)

module _ {Key Value : Type 0} where
  -- what the passes take from the ledger is told first, in their order, then the rest
  abbrev pub Tells : Choices → Ledger Key Value → ℕ → List Departure → List Departure → Type 0
  Tells choices l now ds rest = ds ≡ clearing choices now l ++ rest

  -- an invalidate strikes the key's item, if there is one, and no other
  abbrev pub InvalidateRight : Option (Item Key Value) → Answer Value → List Departure → Type 0
  InvalidateRight None a rest = (a ≡ Absent) × (rest ≡ [])
  InvalidateRight (Some i) a rest = (a ≡ Struck) × (rest ≡ telling StruckOut (i ∷ []))

module _ {Key Value : Type 0} (kind : Kind Key Value) (choices : Choices) where
  -- a get tells what the passes take, and hits rightly
  pub record GetRight (l : Ledger Key Value) (k : Key) (now : ℕ) (a : Answer Value) (ds : List Departure) : Type 0 where
    pub tells : Tells choices l now ds []
    pub hits : HitsRight kind choices (settled ds l) k now a

  -- contains_key tells what the passes take, and says yes exactly when the key's item runs
  pub record ContainsRight (l : Ledger Key Value) (k : Key) (now : ℕ) (a : Answer Value) (ds : List Departure) : Type 0 where
    pub tells : Tells choices l now ds []
    pub says_yes : (i : Item Key Value) → Running kind choices (settled ds l) k now i → a ≡ Yes
    pub says_no : ((i : Item Key Value) → Running kind choices (settled ds l) k now i → ⊥) → a ≡ No

module _ {Key Value : Type 0} (kind : Kind Key Value) (choices : Choices) (sizes : Sizes) where
  -- an insert of a key that has an item replaces it; another is a newcomer
  abbrev pub InsertRight : Ledger Key Value → Key → Value → Option (Item Key Value) → Answer Value → List Departure → Type 0
  InsertRight l k v None a rest = NewcomerRight kind choices sizes l k v a rest
  InsertRight l k v (Some i) a rest = (a ≡ Replaced i.ticket) × (rest ≡ [])

  -- the ledger l goes through a call with this answer and these departures
  unfoldable pub Right : Ledger Key Value → Call Key Value → Answer Value → List Departure → Type 0
  Right l (Get k now) a ds = Timely now a ds (GetRight kind choices l k now a ds)
  Right l (Contains k now) a ds = Timely now a ds (ContainsRight kind choices l k now a ds)
  Right l (Insert k v now) a ds =
      Timely now a ds
      ((rest : List Departure) × Tells choices l now ds rest × InsertRight (settled ds l) k v (item_of kind k (settled ds l)) a rest)
  Right l (Invalidate k now) a ds =
      Timely now a ds ((rest : List Departure) × Tells choices l now ds rest × InvalidateRight (item_of kind k (settled ds l)) a rest)
  Right l InvalidateAll a ds = (a ≡ Swept) × (ds ≡ telling SweptOut l.touch)

  -- ---- the theorem

  -- the cell chosen is nobody else's
  abbrev pub Free : State Key Value → Turn Key Value → Type 0
  Free s t = times t.free (cells_of (after kind choices sizes s t).touch) ≤ 1

  -- each cell chosen in a list of calls is free when it is taken
  unfoldable pub AllFree : State Key Value → List (Turn Key Value) → Type 0
  AllFree s [] = Unit {0}
  AllFree s (t ∷ ts) = Free s t × AllFree (after kind choices sizes s t) ts

  -- the state after a list of calls on a fresh cache
  abbrev pub state_after : List (Turn Key Value) → State Key Value
  state_after ts = end kind choices sizes fresh ts

  -- what is told of it
  abbrev pub log_of : List (Turn Key Value) → List (Line Key Value)
  log_of ts = log kind choices sizes fresh ts

  -- the ledger, from the log alone
  abbrev pub ledger_after : List (Turn Key Value) → Ledger Key Value
  ledger_after ts = follow kind choices sizes empty (log_of ts)

  -- the account of a list of calls
  pub record Account (ts : List (Turn Key Value)) : Type 0 where
    -- after the calls, every ticket is accounted for
    pub accounted : Accounted (all_told (log_of ts)) (all_handed (log_of ts)) (held_tickets (state_after ts))
    -- the entries held bear the items' tickets in turn
    pub in_turn : held_tickets (state_after ts) ≡ tickets_of (ledger_after ts).touch
    -- at the next call the ledger goes through: who gets in, who hits and who leaves is right by it
    pub next_right :
        (t : Turn Key Value) → Free (state_after ts) t
        → Right (ledger_after ts) t.call (line kind choices sizes (state_after ts) t).answer (line kind choices sizes (state_after ts) t).departures
    -- and each ticket told has an item just then
    pub told_held : (t : Turn Key Value) → EachHadItem (ledger_after ts) (line kind choices sizes (state_after ts) t).departures

-- every list of fewer than 2^32 calls on a fresh cache, whatever the clock does
abbrev pub AccountOf : {Key Value : Type 0} → Kind Key Value → Type 0
AccountOf {Key} {Value} kind =
    (choices : Choices) (sizes : Sizes) (ts : List (Turn Key Value)) → length ts < 2 ^ 32 → AllFree kind choices sizes fresh ts
    → Account kind choices sizes ts

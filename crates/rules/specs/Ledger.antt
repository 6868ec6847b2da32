-- A ledger: it is given the choices and the sizes, then each call with its answer and the departures told, and nothing else.
use Rattle.std.specs.Prelude.{ℕ, Bool, true, false, cond, not, List, [], ◌∷◌, Some, None, Option, nat_le}
use Rattle.sketch.specs.Sketches.{Sketch, frequency, incremented}
use Rattle.rules.specs.Fronts.{total, first, looked}
use Rattle.rules.specs.declared.choices.Choices.{Choices}
use Rattle.rules.specs.declared.call.Call.{Call}
use Rattle.rules.specs.declared.call.Call.TheVariants.{Get, Contains, Insert, Invalidate, InvalidateAll}
use Rattle.rules.specs.declared.answer.Answer.{Answer}
use Rattle.rules.specs.declared.answer.Answer.TheVariants.{Hit, Miss, Yes, No, New, Replaced, TurnedAway, Struck, Absent, Swept, Refused}
use Rattle.rules.specs.declared.departure.Cause.{Cause}
use Rattle.rules.specs.declared.departure.Cause.TheVariants.{LivedOut, IdledOut, Trimmed, Outvoted, StruckOut, SweptOut}
use Rattle.rules.specs.declared.departure.Departure.{Departure}
use Rattle.rules.specs.Kinds.{Kind}
use Rattle.rules.specs.Entries.{Sizes}
use Rattle.rules.specs.Limits.{fits, latest}
use Rattle.rules.specs.Opening.{opening}
use Rattle.rules.specs.Votes.{none}
use Rattle.rules.specs.Items.{Item, Ledger, remove, touch_item, replace_item, add_item, sketching, sweep_items}
use Rattle.rules.specs.Runs.{Line}

-- ---- what is told

-- whether a cause is a vote's
abbrev pub is_outvoted : Cause → Bool
is_outvoted LivedOut = false
is_outvoted IdledOut = false
is_outvoted Trimmed = false
is_outvoted Outvoted = true
is_outvoted StruckOut = false
is_outvoted SweptOut = false

-- whether a cause is a pass's
abbrev pub by_pass : Cause → Bool
by_pass LivedOut = true
by_pass IdledOut = true
by_pass Trimmed = true
by_pass Outvoted = false
by_pass StruckOut = false
by_pass SweptOut = false

-- the tickets told with a cause that passes a test
abbrev pub told_by : (Cause → Bool) → List Departure → List ℕ
told_by p [] = []
told_by p (d ∷ ds) = cond (p d.cause) (d.ticket ∷ told_by p ds) (told_by p ds)

-- the tickets told to be outvoted
abbrev pub outvoted : List Departure → List ℕ
outvoted ds = told_by is_outvoted ds

module _ {Key Value : Type 0} where
  -- the items with these tickets
  abbrev pub items_with : List ℕ → Ledger Key Value → List (Item Key Value)
  items_with ts l = looked (λ (i : Item Key Value). i.ticket) l.touch ts

  -- First the items are removed that are told with a pass's cause. Each call is judged by the ledger as it stands then.
  unfoldable pub settled : List Departure → Ledger Key Value → Ledger Key Value
  settled ds l = remove (items_with (told_by by_pass ds) l) l

-- whether an answer is a hit
abbrev pub is_hit : {Value : Type 0} → Answer Value → Bool
is_hit (Hit v) = true
is_hit Miss = false
is_hit Yes = false
is_hit No = false
is_hit (New t) = false
is_hit (Replaced t) = false
is_hit TurnedAway = false
is_hit Struck = false
is_hit Absent = false
is_hit Swept = false
is_hit (Refused n) = false

-- the ticket handed out by an answer
abbrev pub handing : {Value : Type 0} → Answer Value → List ℕ
handing (Hit v) = []
handing Miss = []
handing Yes = []
handing No = []
handing (New t) = t ∷ []
handing (Replaced t) = []
handing TurnedAway = []
handing Struck = []
handing Absent = []
handing Swept = []
handing (Refused n) = []

-- whether an answer takes a newcomer in: it hands out a ticket
abbrev pub takes_in : {Value : Type 0} → Answer Value → Bool
takes_in a = not (none (handing a))

module _ {Key Value : Type 0} (kind : Kind Key Value) where
  -- the item of a key
  abbrev pub item_of : Key → Ledger Key Value → Option (Item Key Value)
  item_of k l = first (λ (i : Item Key Value). kind.alike i.key k) l.touch

  -- a run's popularity
  abbrev pub popularity_of : Sketch → List (Item Key Value) → ℕ
  popularity_of s is = total (λ (i : Item Key Value). frequency s (kind.hashed i.key)) is

  -- the key's hash counted
  abbrev pub counting : Key → Ledger Key Value → Ledger Key Value
  counting k l = sketching (incremented l.sketch (kind.hashed k)) l

  -- whether a newcomer fits
  abbrev pub fitting : Choices → Ledger Key Value → Key → Value → Bool
  fitting choices l k v = fits choices.capacity l.recorded (kind.weighs k v)

-- ---- the ledger after a call, by its answer, once the items that the passes take are removed

module _ {Key Value : Type 0} where
  -- a get: the item touched, if the answer is a hit
  abbrev pub upon_get : ℕ → Bool → Option (Item Key Value) → Ledger Key Value → Ledger Key Value
  upon_get now hit None l = l
  upon_get now hit (Some i) l = cond hit (touch_item now i l) l

  -- an invalidate: the key's item removed
  abbrev pub upon_invalidate : Option (Item Key Value) → Ledger Key Value → Ledger Key Value
  upon_invalidate None l = l
  upon_invalidate (Some i) l = remove (i ∷ []) l

module _ {Key Value : Type 0} (kind : Kind Key Value) (choices : Choices) (sizes : Sizes) where
  -- the sketch after a newcomer that fitted
  abbrev pub opened_after : Ledger Key Value → Ledger Key Value
  opened_after l = sketching (opening kind.weighed sizes.words l.count l.recorded choices.capacity l.sketch) l

  -- a newcomer taken in; where it did not fit, the items with the tickets told to be outvoted are removed
  abbrev pub newly : Key → Value → ℕ → List ℕ → Ledger Key Value → Ledger Key Value
  newly k v now gone l =
      cond (fitting kind choices l k v) (opened_after (add_item choices.life k v (kind.weighs k v) now l))
      (add_item choices.life k v (kind.weighs k v) now (remove (items_with gone l) l))

  -- an insert: the key's item replaced, or a newcomer taken in, if the answer says so
  abbrev pub upon_insert : Key → Value → ℕ → Bool → List ℕ → Option (Item Key Value) → Ledger Key Value → Ledger Key Value
  upon_insert k v now taken gone None l = cond taken (newly k v now gone l) l
  upon_insert k v now taken gone (Some i) l = replace_item choices.life v (kind.weighs k v) now i l

  -- The ledger after a call; an instant too late is refused and changes nothing.
  unfoldable pub entered : Ledger Key Value → Call Key Value → Answer Value → List Departure → Ledger Key Value
  entered l (Get k now) a ds =
      cond (nat_le now latest) (upon_get now (is_hit a) (item_of kind k (settled ds l)) (counting kind k (settled ds l))) l
  entered l (Contains k now) a ds = cond (nat_le now latest) (settled ds l) l
  entered l (Insert k v now) a ds =
      cond (nat_le now latest) (upon_insert k v now (takes_in a) (outvoted ds) (item_of kind k (settled ds l)) (settled ds l)) l
  entered l (Invalidate k now) a ds = cond (nat_le now latest) (upon_invalidate (item_of kind k (settled ds l)) (settled ds l)) l
  entered l InvalidateAll a ds = sweep_items l

  -- the ledger after the lines of a log
  unfoldable pub follow : Ledger Key Value → List (Line Key Value) → Ledger Key Value
  follow l [] = l
  follow l (x ∷ xs) = follow (entered l x.call x.answer x.departures) xs

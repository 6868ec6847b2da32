-- What is certain of the rules that step and ledger share: passes, runs, times, fitting, the opening, refusals, and who stays.
use Rattle.std.specs.Prelude.{◌≡◌, ℕ, ◌+◌, ◌-◌, ◌*◌, ◌/◌, ◌%◌, ◌^◌, ◌<◌, ◌≤◌, Bool, true, false, ◌≢◌, ◌⊎◌, List, [], ◌∷◌, ◌++◌, length, take, drop, Some, None, Option}
use Rattle.sketch.specs.Sketches.{Sketch, opens_over, opened, frequency}
use Rattle.rules.specs.Fronts.{total, without, freeing, In}
use Rattle.rules.specs.declared.choices.Choices.{Choices}
use Rattle.rules.specs.declared.call.Call.{Call}
use Rattle.rules.specs.declared.call.Call.TheVariants.{Get, Contains, Insert, Invalidate, InvalidateAll}
use Rattle.rules.specs.declared.answer.Answer.TheVariants.{New, Replaced, Refused}
use Rattle.refusals.specs.declared.Refusal.TheVariants.{BeyondRange}
use Rattle.rules.specs.Kinds.{Kind}
use Rattle.rules.specs.Entries.{Sizes, Entry, State}
use Rattle.rules.specs.Limits.{plus, fits, within}
use Rattle.rules.specs.Rounding.{closest}
use Rattle.rules.specs.Opening.{opening_size, opening}
use Rattle.rules.specs.Passes.{written, lived_out, idled_out, expired, life_pass, idle_pass, trim_pass}
use Rattle.rules.specs.Calls.{Outcome, outcome, step}

-- ---- the passes

-- Those that leave an order because their time is over: at most 100, a front of the order, each of them over;
-- and where fewer leave, the next in the order is not over.
pub record Clears {A : Type 0} (over : A → Bool) (order gone : List A) : Type 0 where
  pub few : length gone ≤ 100
  pub front : gone ≡ take (length gone) order
  pub each : (a : A) → In a gone → over a ≡ true
  pub stops : length gone < 100 → (a : A) (rest : List A) → drop (length gone) order ≡ a ∷ rest → over a ≡ false

-- Those that leave an order to free a weight: at most 100, a front of the order, nobody once the weight is reached;
-- and where fewer leave, it is reached or nobody is left.
pub record Trims {A : Type 0} (weight : A → ℕ) (asked : ℕ) (order gone : List A) : Type 0 where
  pub few : length gone ≤ 100
  pub front : gone ≡ take (length gone) order
  pub needed : (n : ℕ) → n < length gone → total weight (take n order) < asked
  pub stops : length gone < 100 → (asked ≤ total weight gone) ⊎ (gone ≡ order)

-- the three passes over a state
pub record PassesClear {Key Value : Type 0} (choices : Choices) (now : ℕ) (s : State Key Value) : Type 0 where
  pub life : Clears (lived_out choices now) (written s) (life_pass choices now s)
  pub idle : Clears (idled_out choices now) s.touch (idle_pass choices now s)
  pub trim : (c : ℕ) → choices.capacity ≡ Some c → Trims (λ (e : Entry Key Value). e.weight) (s.recorded - c) s.touch (trim_pass choices now s)
  pub unbounded : choices.capacity ≡ None → trim_pass choices now s ≡ []

-- in every state, at every instant
abbrev pub PassesClearFronts : (Key Value : Type 0) → Type 0
PassesClearFronts Key Value = (choices : Choices) (now : ℕ) (s : State Key Value) → PassesClear choices now s

-- ---- the vote

-- The run at which the vote stops frees the weight asked for, and of all runs that do it is the shortest and the least popular.
pub record LeastRun {Key Value : Type 0} (asked : ℕ) (k : Sketch) (order run : List (Entry Key Value)) : Type 0 where
  pub front : run ≡ take (length run) order
  pub frees : asked ≤ total (λ (e : Entry Key Value). e.weight) run
  pub shortest : (n : ℕ) → asked ≤ total (λ (e : Entry Key Value). e.weight) (take n order) → length run ≤ n
  pub least_popular :
      (n : ℕ) → asked ≤ total (λ (e : Entry Key Value). e.weight) (take n order)
      → total (λ (e : Entry Key Value). frequency k e.hash) run ≤ total (λ (e : Entry Key Value). frequency k e.hash) (take n order)

-- so looking no further is enough, wherever some run frees the weight
abbrev pub LookingNoFurther : (Key Value : Type 0) → Type 0
LookingNoFurther Key Value =
    (asked : ℕ) (k : Sketch) (order : List (Entry Key Value)) (n : ℕ) → asked ≤ total (λ (e : Entry Key Value). e.weight) (take n order)
    → LeastRun asked k order (freeing (λ (e : Entry Key Value). e.weight) asked order)

-- ---- times

-- an entry is expired from the end of its life, or of its idle time, on, and not before
pub record Expires {Key Value : Type 0} (choices : Choices) (now : ℕ) (e : Entry Key Value) : Type 0 where
  pub lived : (d : ℕ) → choices.life ≡ Some d → e.written + d ≤ now → expired choices now e ≡ true
  pub idled : (d : ℕ) → choices.idle ≡ Some d → e.touched + d ≤ now → expired choices now e ≡ true
  pub runs :
      ((d : ℕ) → choices.life ≡ Some d → now < e.written + d) → ((d : ℕ) → choices.idle ≡ Some d → now < e.touched + d)
      → expired choices now e ≡ false

-- every entry, at every instant
abbrev pub ExpiresExactly : (Key Value : Type 0) → Type 0
ExpiresExactly Key Value = (choices : Choices) (now : ℕ) (e : Entry Key Value) → Expires choices now e

-- ---- the capacity

-- a weight fits exactly when it and the recorded one sum to no more than the capacity, and it always does without one
pub record FitsExactly (c recorded w : ℕ) : Type 0 where
  pub enough : recorded + w ≤ c → fits (Some c) recorded w ≡ true
  pub too_much : c < recorded + w → fits (Some c) recorded w ≡ false
  pub unbounded : fits None recorded w ≡ true
  pub alone : w ≤ c → within (Some c) w ≡ true
  pub alone_too_much : c < w → within (Some c) w ≡ false
  pub alone_unbounded : within None w ≡ true

-- every weight
abbrev pub FittingIsExact : Type 0
FittingIsExact = (c recorded w : ℕ) → FitsExactly c recorded w

-- a sum is exact below 2^64, and stops there
pub record SumStops (a b : ℕ) : Type 0 where
  pub exact : a + b < 2 ^ 64 → plus a b ≡ a + b
  pub stops : 2 ^ 64 ≤ a + b → plus a b ≡ 2 ^ 64 - 1

-- every sum
abbrev pub SumsStop : Type 0
SumsStop = (a b : ℕ) → SumStops a b

-- ---- the opening of the sketch

-- It opens once: when it has no words and the recorded weight has reached half of the capacity, and never else.
pub record Opens (weighed : Bool) (words count recorded c : ℕ) (k : Sketch) : Type 0 where
  pub open_stays : 0 < length k.words → opening weighed words count recorded (Some c) k ≡ k
  pub early_stays : recorded < c / 2 → opening weighed words count recorded (Some c) k ≡ k
  pub unbounded_stays : opening weighed words count recorded None k ≡ k
  pub opens :
      length k.words ≡ 0 → c / 2 ≤ recorded → opens_over words ≡ true
      → opening weighed words count recorded (Some c) k ≡ opened words (opening_size weighed count recorded c)
  pub by_capacity : weighed ≡ false → opening_size weighed count recorded c ≡ c
  pub by_zero : weighed ≡ true → c ≡ 0 → opening_size weighed count recorded c ≡ 0

-- every sketch
abbrev pub OpensOnce : Type 0
OpensOnce = (weighed : Bool) (words count recorded c : ℕ) (k : Sketch) → Opens weighed words count recorded c k

-- r is a / b to the nearest whole number: at most half away from it, and at a tie even
pub record Nearest (a b r : ℕ) : Type 0 where
  pub not_above : r * b * 2 ≤ a * 2 + b
  pub not_below : a * 2 ≤ r * b * 2 + b
  pub even_tie : a % b * 2 ≡ b → r % 2 ≡ 0

-- the one step in which the opening's size is rounded
abbrev pub RoundsToNearest : Type 0
RoundsToNearest = (a b : ℕ) → 0 < b → Nearest a b (closest a b)

-- ---- refusals and who stays, over whole calls

-- the instant that a call gives
abbrev pub instant_of : {Key Value : Type 0} → Call Key Value → Option ℕ
instant_of (Get k now) = Some now
instant_of (Contains k now) = Some now
instant_of (Insert k v now) = Some now
instant_of (Invalidate k now) = Some now
instant_of InvalidateAll = None

-- an instant above 2^62 is refused, and changes nothing; another is not refused for it
pub record Late {Key Value : Type 0} (now : ℕ) (s : State Key Value) (o : Outcome Key Value) : Type 0 where
  pub refused : 2 ^ 62 < now → o ≡ outcome s (Refused BeyondRange) []
  pub else : now ≤ 2 ^ 62 → o.answer ≢ Refused BeyondRange

-- every call that gives an instant, in every state
abbrev pub LateIsRefused : (Key Value : Type 0) → Type 0
LateIsRefused Key Value =
    (kind : Kind Key Value) (choices : Choices) (sizes : Sizes) (free : ℕ) (s : State Key Value) (c : Call Key Value) (now : ℕ)
    → instant_of c ≡ Some now → Late now s (step kind choices sizes free s c)

-- After a call the touch order is the one before it with some taken out, the others as they were and in their order, and at most one
-- entry more, last: a newcomer, or the one that was touched or replaced, with its ticket, its key and its cell.
pub record Stay {Key Value : Type 0} (s : State Key Value) (o : Outcome Key Value) : Type 0 where
  pub gone : Entry Key Value → Bool
  pub last : List (Entry Key Value)
  pub one : length last ≤ 1
  pub others : o.state.touch ≡ without gone s.touch ++ last
  pub moved :
      (e : Entry Key Value) → In e last
      → (o.answer ≡ New e.ticket)
      ⊎ ((old : Entry Key Value) × In old s.touch × (e.ticket ≡ old.ticket) × (e.cell ≡ old.cell) × (e.key ≡ old.key)
      × ((e.value ≡ old.value) ⊎ (o.answer ≡ Replaced e.ticket)))

-- every call, in every state
abbrev pub OthersStay : (Key Value : Type 0) → Type 0
OthersStay Key Value =
    (kind : Kind Key Value) (choices : Choices) (sizes : Sizes) (free : ℕ) (s : State Key Value) (c : Call Key Value)
    → Stay s (step kind choices sizes free s c)

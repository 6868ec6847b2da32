-- What each call does: the state after it, the answer, and who left.
use Rattle.std.specs.Prelude.{ℕ, ◌-◌, Bool, cond, ◌&&◌, List, [], ◌∷◌, ◌++◌, length, Some, None, Option, nat_eq, nat_le}
use Rattle.sketch.specs.Sketches.{Sketch, incremented}
use Rattle.rules.specs.Fronts.{without, first}
use Rattle.rules.specs.declared.choices.Choices.{Choices}
use Rattle.rules.specs.declared.call.Call.{Call}
use Rattle.rules.specs.declared.call.Call.TheVariants.{Get, Contains, Insert, Invalidate, InvalidateAll}
use Rattle.rules.specs.declared.answer.Answer.{Answer}
use Rattle.rules.specs.declared.answer.Answer.TheVariants.{Hit, Miss, Yes, No, New, Replaced, TurnedAway, Struck, Absent, Swept, Refused}
use Rattle.refusals.specs.declared.Refusal.TheVariants.{BeyondRange, NoCell}
use Rattle.rules.specs.declared.departure.Cause.TheVariants.{Outvoted, StruckOut, SweptOut}
use Rattle.rules.specs.declared.departure.Departure.{Departure}
use Rattle.rules.specs.Kinds.{Kind}
use Rattle.rules.specs.Entries.{Sizes, Entry, State}
use Rattle.rules.specs.Limits.{plus, kept, latest}
use Rattle.rules.specs.Opening.{opening}
use Rattle.rules.specs.Passes.{leave, told, expired, passed, passes_told}
use Rattle.rules.specs.Votes.{Verdict, fits_in, outvotes, loses, none, verdict}

module _ {Key Value : Type 0} where
  -- ---- entries that change

  -- an entry goes to the back of the touch order
  abbrev pub to_back : Entry Key Value → List (Entry Key Value) → List (Entry Key Value)
  to_back e es = without (λ (x : Entry Key Value). nat_eq x.cell e.cell) es ++ (e ∷ [])

  -- an entry touched at an instant
  abbrev pub touched_at : ℕ → Entry Key Value → Entry Key Value
  touched_at now e = record {
    cell = e.cell;
    key = e.key;
    value = e.value;
    weight = e.weight;
    hash = e.hash;
    touched = now;
    written = e.written;
    ticket = e.ticket;
  }

  -- an entry with a new value, its weight and both instants
  abbrev pub rewritten : Value → ℕ → ℕ → Entry Key Value → Entry Key Value
  rewritten v w now e = record {
    cell = e.cell;
    key = e.key;
    value = v;
    weight = w;
    hash = e.hash;
    touched = now;
    written = now;
    ticket = e.ticket;
  }

  -- a hit
  unfoldable pub touch_entry : ℕ → Entry Key Value → State Key Value → State Key Value
  touch_entry now e s = record {
    touch = to_back (touched_at now e) s.touch;
    write = s.write;
    next = s.next;
    recorded = s.recorded;
    count = s.count;
    sketch = s.sketch;
  }

  -- a held key's new value
  unfoldable pub replace_entry : Option ℕ → Value → ℕ → ℕ → Entry Key Value → State Key Value → State Key Value
  replace_entry life v w now e s = record {
    touch = to_back (rewritten v w now e) s.touch;
    write = kept life (without (λ c. nat_eq c e.cell) s.write ++ (e.cell ∷ []));
    next = s.next;
    recorded = plus (s.recorded - e.weight) w;
    count = s.count;
    sketch = s.sketch;
  }

  -- a newcomer goes last in both orders
  unfoldable pub admit : Option ℕ → Entry Key Value → State Key Value → State Key Value
  admit life e s = record {
    touch = s.touch ++ (e ∷ []);
    write = kept life (s.write ++ (e.cell ∷ []));
    next = plus s.next 1;
    recorded = plus s.recorded e.weight;
    count = plus s.count 1;
    sketch = s.sketch;
  }

  -- the same state with another sketch
  abbrev pub with_sketch : Sketch → State Key Value → State Key Value
  with_sketch k s = record { touch = s.touch; write = s.write; next = s.next; recorded = s.recorded; count = s.count; sketch = k }

  module _ (kind : Kind Key Value) where
    -- the entry of a key
    abbrev pub held : Key → State Key Value → Option (Entry Key Value)
    held k s = first (λ (e : Entry Key Value). kind.alike e.key k) s.touch

    -- a newcomer, in a cell and with a ticket
    abbrev pub newcomer : ℕ → Key → Value → ℕ → ℕ → Entry Key Value
    newcomer cell k v now ticket = record {
      cell = cell;
      key = k;
      value = v;
      weight = kind.weighs k v;
      hash = kind.hashed k;
      touched = now;
      written = now;
      ticket = ticket;
    }

-- what a call leaves: the state after it, its answer, and who left
pub record Outcome (Key Value : Type 0) : Type 0 where
  pub state : State Key Value
  pub answer : Answer Value
  pub departures : List Departure

module _ {Key Value : Type 0} where
  -- an outcome by its parts
  abbrev pub outcome : State Key Value → Answer Value → List Departure → Outcome Key Value
  outcome s a ds = record { state = s; answer = a; departures = ds }

  -- ---- the calls after their passes; ds is what the passes told

  -- get: the sketch has counted the key already
  abbrev pub got : Choices → ℕ → Option (Entry Key Value) → State Key Value → List Departure → Outcome Key Value
  got choices now None s ds = outcome s Miss ds
  got choices now (Some e) s ds = cond (expired choices now e) (outcome s Miss ds) (outcome (touch_entry now e s) (Hit e.value) ds)

  -- contains_key: changes nothing
  abbrev pub asked : Choices → ℕ → Option (Entry Key Value) → State Key Value → List Departure → Outcome Key Value
  asked choices now None s ds = outcome s No ds
  asked choices now (Some e) s ds = outcome s (cond (expired choices now e) No Yes) ds

  -- invalidate: the key's entry leaves, expired or not
  abbrev pub struck : Option (Entry Key Value) → State Key Value → List Departure → Outcome Key Value
  struck None s ds = outcome s Absent ds
  struck (Some e) s ds = outcome (leave (e ∷ []) s) Struck (ds ++ told StruckOut (e ∷ []))

  -- an instant too late is refused, and changes nothing
  abbrev pub timely : ℕ → State Key Value → Outcome Key Value → Outcome Key Value
  timely now s o = cond (nat_le now latest) o (outcome s (Refused BeyondRange) [])

  -- no cell is free
  abbrev pub full : Sizes → State Key Value → Bool
  full sizes s = nat_le sizes.cells (length s.touch)

  -- the key's hash counted
  abbrev pub counted : Kind Key Value → Key → State Key Value → State Key Value
  counted kind k s = with_sketch (incremented s.sketch (kind.hashed k)) s

  -- the sketch after a newcomer that fitted
  abbrev pub opened_sketch : Kind Key Value → Choices → Sizes → State Key Value → State Key Value
  opened_sketch kind choices sizes s =
      with_sketch (opening kind.weighed sizes.words s.count s.recorded choices.capacity s.sketch) s

module _ {Key Value : Type 0} (kind : Kind Key Value) (choices : Choices) (sizes : Sizes) (free : ℕ) where
  -- the state with a newcomer in the free cell and the next ticket
  abbrev pub joined : Key → Value → ℕ → State Key Value → State Key Value
  joined k v now s = admit choices.life (newcomer kind free k v now s.next) s

  -- a newcomer, by its verdict
  abbrev pub came : Key → Value → ℕ → Verdict (Entry Key Value) → State Key Value → List Departure → Outcome Key Value
  came k v now fits_in s ds =
      cond (full sizes s) (outcome s (Refused NoCell) ds) (outcome (opened_sketch kind choices sizes (joined k v now s)) (New s.next) ds)
  came k v now (outvotes run) s ds =
      cond (none run && full sizes s) (outcome s (Refused NoCell) ds) (outcome (joined k v now (leave run s)) (New s.next) (ds ++ told Outvoted run))
  came k v now loses s ds = outcome s TurnedAway ds

  -- insert: a held key's entry is replaced, expired or not; another key is a newcomer
  abbrev pub inserted : Key → Value → ℕ → Option (Entry Key Value) → State Key Value → List Departure → Outcome Key Value
  inserted k v now None s ds = came k v now (verdict kind choices k v s) s ds
  inserted k v now (Some e) s ds = outcome (replace_entry choices.life v (kind.weighs k v) now e s) (Replaced e.ticket) ds

  -- What each call does, in a state, where a newcomer would get the cell `free`: no answer and no departure depends on that cell.
  unfoldable pub step : State Key Value → Call Key Value → Outcome Key Value
  step s (Get k now) =
      timely now s (got choices now (held kind k (passed choices now s)) (counted kind k (passed choices now s)) (passes_told choices now s))
  step s (Contains k now) = timely now s (asked choices now (held kind k (passed choices now s)) (passed choices now s) (passes_told choices now s))
  step s (Insert k v now) = timely now s (inserted k v now (held kind k (passed choices now s)) (passed choices now s) (passes_told choices now s))
  step s (Invalidate k now) = timely now s (struck (held kind k (passed choices now s)) (passed choices now s) (passes_told choices now s))
  step s InvalidateAll =
      outcome (record { touch = []; write = []; next = s.next; recorded = 0; count = 0; sketch = s.sketch }) Swept (told SweptOut s.touch)

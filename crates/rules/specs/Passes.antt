-- Leaving, and the three passes that come before a call.
use Rattle.std.specs.Prelude.{ℕ, ◌-◌, Bool, ◌||◌, List, ◌++◌, map, length}
use Rattle.times.specs.Expiry as times
use Rattle.rules.specs.Fronts.{total, without, passing, freeing, among, looked}
use Rattle.rules.specs.declared.choices.Choices.{Choices}
use Rattle.rules.specs.declared.departure.Cause.{Cause}
use Rattle.rules.specs.declared.departure.Cause.TheVariants.{LivedOut, IdledOut, Trimmed}
use Rattle.rules.specs.declared.departure.Departure.{Departure}
use Rattle.rules.specs.Entries.{Entry, State}
use Rattle.rules.specs.Limits.{excess, batch}

module _ {Key Value : Type 0} where
  -- ---- leaving

  -- the cells of entries
  abbrev pub cells_of : List (Entry Key Value) → List ℕ
  cells_of es = map (λ (e : Entry Key Value). e.cell) es

  -- these entries leave, with their weights
  unfoldable pub leave : List (Entry Key Value) → State Key Value → State Key Value
  leave es s = record {
    touch = without (λ (e : Entry Key Value). among (cells_of es) e.cell) s.touch;
    write = without (among (cells_of es)) s.write;
    next = s.next;
    recorded = s.recorded - total (λ (e : Entry Key Value). e.weight) es;
    count = s.count - length es;
    sketch = s.sketch;
  }

  -- how a departure is told
  abbrev pub told : Cause → List (Entry Key Value) → List Departure
  told why es = map (λ (e : Entry Key Value). record { ticket = e.ticket; cause = why }) es

  -- the entries in write order
  abbrev pub written : State Key Value → List (Entry Key Value)
  written s = looked (λ (e : Entry Key Value). e.cell) s.touch s.write

  -- ---- the passes

  module _ (choices : Choices) (now : ℕ) where
    -- an entry's life is over
    abbrev pub lived_out : Entry Key Value → Bool
    lived_out e = times.expired choices.life e.written now

    -- an entry's idle time is over
    abbrev pub idled_out : Entry Key Value → Bool
    idled_out e = times.expired choices.idle e.touched now

    -- either is
    abbrev pub expired : Entry Key Value → Bool
    expired e = lived_out e || idled_out e

    -- life: whom the pass takes from the front of the write order, while each has lived out
    unfoldable pub life_pass : State Key Value → List (Entry Key Value)
    life_pass s = batch (passing lived_out (written s))

    -- idle: from the front of the touch order, while each has idled out
    unfoldable pub idle_pass : State Key Value → List (Entry Key Value)
    idle_pass s = batch (passing idled_out s.touch)

    -- trim: from the front of the touch order, until the weight freed reaches what is over the capacity at the start
    unfoldable pub trim_pass : State Key Value → List (Entry Key Value)
    trim_pass s = batch (freeing (λ (e : Entry Key Value). e.weight) (excess choices.capacity s.recorded) s.touch)

    -- the state after the first pass
    abbrev pub after_life : State Key Value → State Key Value
    after_life s = leave (life_pass s) s

    -- the state after the second
    abbrev pub after_idle : State Key Value → State Key Value
    after_idle s = leave (idle_pass (after_life s)) (after_life s)

    -- the state after the three passes
    unfoldable pub passed : State Key Value → State Key Value
    passed s = leave (trim_pass (after_idle s)) (after_idle s)

    -- the departures of the three passes
    unfoldable pub passes_told : State Key Value → List Departure
    passes_told s = told LivedOut (life_pass s) ++ (told IdledOut (idle_pass (after_life s)) ++ told Trimmed (trim_pass (after_idle s)))

-- What the parts mean together, and what holds of them.
use Rattle.std.specs.Prelude.{◌≡◌, ℕ, ◌^◌, ◌≤◌, length, Some, None, Option}
use Rattle.times.specs.Expiry.{span_of}
use Rattle.kinds.specs.declared.EntryKind.{Ghosts}
use Rattle.deque.specs.Meaning.{items, lent, places}
use Rattle.index.specs.Meaning.{entries, capacity_in, held_in}
use Rattle.sketch.specs.Meaning as sketch
use Rattle.rules.specs.declared.choices.Choices.{Choices}
use Rattle.rules.specs.Entries.{Sizes, State}
use Rattle.store.specs.declared.parts.Parts.{Parts}
use Rattle.store.specs.declared.parts.Policy.{Policy}
use Rattle.store.specs.Holding.{held_at, touch_of, write_of, with_life, Follows}

-- the choices that were accepted
abbrev pub choices_of : Policy → Choices
choices_of p = record { capacity = p.max_capacity; life = span_of p.time_to_live; idle = span_of p.time_to_idle }

-- no capacity is above 2^48
abbrev pub Bounded : Option ℕ → Type 0
Bounded None = Unit {0}
Bounded (Some c) = c ≤ 2 ^ 48

module _ {K Key Value : Type 0} {m : Ghosts K Key Value} where
  -- the state that the parts are in
  unfoldable pub meaning : Parts K Key Value m → State Key Value
  meaning p = record {
    touch = held_at (entries p.index.now) (places (items p.touch.now));
    write = places (items p.write.now);
    next = p.next_ticket;
    recorded = p.weighted_size;
    count = p.entry_count;
    sketch = sketch.meaning p.sketch.now;
  }

  -- how much was lent, as the rules count it
  abbrev pub sizes_of : Parts K Key Value m → Sizes
  sizes_of p = record { cells = capacity_in p.index.now; words = sketch.lent p.sketch.now }

  -- What holds of every cache's parts: both queues have the record of each entry, the write order only with a life; the
  -- touch order has as many as the index holds; there is a node and a place for a departure for each cell.
  pub record Sound (p : Parts K Key Value m) : Type 0 where
    pub touches : Follows touch_of (entries p.index.now) (items p.touch.now)
    pub writes : Follows write_of (λ (j : ℕ). with_life (span_of p.policy.time_to_live) (entries p.index.now j)) (items p.write.now)
    pub counted : held_in p.index.now ≡ length (items p.touch.now)
    pub touch_room : capacity_in p.index.now ≤ lent p.touch.now
    pub write_room : capacity_in p.index.now ≤ lent p.write.now
    pub told_room : capacity_in p.index.now ≤ length p.departures.now
    pub bounded : Bounded p.policy.max_capacity
    deriving IsProp as Sound-prop

-- The items of a ledger: what it has of each entry, whom the passes take, and how items change.
use Rattle.std.specs.Prelude.{ℕ, ◌-◌, Bool, ◌||◌, List, [], ◌∷◌, ◌++◌, map, length, Option, nat_eq}
use Rattle.sketch.specs.Sketches.{Sketch, closed}
use Rattle.times.specs.Expiry as times
use Rattle.rules.specs.Fronts.{total, without, passing, freeing, among, looked}
use Rattle.rules.specs.declared.choices.Choices.{Choices}
use Rattle.rules.specs.declared.departure.Cause.{Cause}
use Rattle.rules.specs.declared.departure.Cause.TheVariants.{LivedOut, IdledOut, Trimmed}
use Rattle.rules.specs.declared.departure.Departure.{Departure}
use Rattle.rules.specs.Limits.{plus, excess, kept, batch}

-- what the ledger has of an entry
pub record Item (Key Value : Type 0) : Type 0 where
  pub ticket : ℕ
  pub key : Key
  pub value : Value
  pub weight : ℕ
  pub touched : ℕ
  pub written : ℕ

-- The items, longest untouched first; with a life, their tickets, longest unwritten first; and the numbers of a cache.
pub record Ledger (Key Value : Type 0) : Type 0 where
  pub touch : List (Item Key Value)
  pub write : List ℕ
  pub next : ℕ
  pub recorded : ℕ
  pub count : ℕ
  pub sketch : Sketch

-- the ledger of a cache just made
unfoldable pub empty : {Key Value : Type 0} → Ledger Key Value
empty = record { touch = []; write = []; next = 1; recorded = 0; count = 0; sketch = closed }

module _ {Key Value : Type 0} where
  -- the tickets of items
  abbrev pub tickets_of : List (Item Key Value) → List ℕ
  tickets_of is = map (λ (i : Item Key Value). i.ticket) is

  -- what items weigh together
  abbrev pub weight_of : List (Item Key Value) → ℕ
  weight_of is = total (λ (i : Item Key Value). i.weight) is

  -- how items are told to have left
  abbrev pub telling : Cause → List (Item Key Value) → List Departure
  telling why is = map (λ (i : Item Key Value). record { ticket = i.ticket; cause = why }) is

  -- these items are gone, with their weights
  unfoldable pub remove : List (Item Key Value) → Ledger Key Value → Ledger Key Value
  remove is l = record {
    touch = without (λ (i : Item Key Value). among (tickets_of is) i.ticket) l.touch;
    write = without (among (tickets_of is)) l.write;
    next = l.next;
    recorded = l.recorded - weight_of is;
    count = l.count - length is;
    sketch = l.sketch;
  }

  -- the items in write order
  abbrev pub in_write_order : Ledger Key Value → List (Item Key Value)
  in_write_order l = looked (λ (i : Item Key Value). i.ticket) l.touch l.write

  module _ (choices : Choices) (now : ℕ) where
    -- an item's life is over
    abbrev pub outlived : Item Key Value → Bool
    outlived i = times.expired choices.life i.written now

    -- its idle time is over
    abbrev pub idle_over : Item Key Value → Bool
    idle_over i = times.expired choices.idle i.touched now

    -- either is over
    abbrev pub lapsed : Item Key Value → Bool
    lapsed i = outlived i || idle_over i

    -- life: whom the pass takes from the front of the write order, while each has lived out
    unfoldable pub by_life : Ledger Key Value → List (Item Key Value)
    by_life l = batch (passing outlived (in_write_order l))

    -- idle: from the front of the touch order, while each has idled out
    unfoldable pub by_idle : Ledger Key Value → List (Item Key Value)
    by_idle l = batch (passing idle_over l.touch)

    -- trim: from the front of the touch order, until the weight freed reaches what is over the capacity at the start
    unfoldable pub by_trim : Ledger Key Value → List (Item Key Value)
    by_trim l = batch (freeing (λ (i : Item Key Value). i.weight) (excess choices.capacity l.recorded) l.touch)

    -- the ledger after the first pass
    abbrev pub past_life : Ledger Key Value → Ledger Key Value
    past_life l = remove (by_life l) l

    -- the ledger after the second
    abbrev pub past_idle : Ledger Key Value → Ledger Key Value
    past_idle l = remove (by_idle (past_life l)) (past_life l)

    -- what must be told of them, in their order
    unfoldable pub clearing : Ledger Key Value → List Departure
    clearing l = telling LivedOut (by_life l) ++ (telling IdledOut (by_idle (past_life l)) ++ telling Trimmed (by_trim (past_idle l)))

  -- an item goes last
  abbrev pub last : Item Key Value → List (Item Key Value) → List (Item Key Value)
  last i is = without (λ (x : Item Key Value). nat_eq x.ticket i.ticket) is ++ (i ∷ [])

  -- a hit: touched now, last in touch order
  unfoldable pub touch_item : ℕ → Item Key Value → Ledger Key Value → Ledger Key Value
  touch_item now i l = record {
    touch = last (record { ticket = i.ticket; key = i.key; value = i.value; weight = i.weight; touched = now; written = i.written }) l.touch;
    write = l.write;
    next = l.next;
    recorded = l.recorded;
    count = l.count;
    sketch = l.sketch;
  }

  -- a new value: both instants now, last in both orders
  unfoldable pub replace_item : Option ℕ → Value → ℕ → ℕ → Item Key Value → Ledger Key Value → Ledger Key Value
  replace_item life v w now i l = record {
    touch = last (record { ticket = i.ticket; key = i.key; value = v; weight = w; touched = now; written = now }) l.touch;
    write = kept life (without (λ t. nat_eq t i.ticket) l.write ++ (i.ticket ∷ []));
    next = l.next;
    recorded = plus (l.recorded - i.weight) w;
    count = l.count;
    sketch = l.sketch;
  }

  -- a newcomer: last in both orders, with the next ticket
  unfoldable pub add_item : Option ℕ → Key → Value → ℕ → ℕ → Ledger Key Value → Ledger Key Value
  add_item life k v w now l = record {
    touch = l.touch ++ (record { ticket = l.next; key = k; value = v; weight = w; touched = now; written = now } ∷ []);
    write = kept life (l.write ++ (l.next ∷ []));
    next = plus l.next 1;
    recorded = plus l.recorded w;
    count = plus l.count 1;
    sketch = l.sketch;
  }

  -- the same ledger with another sketch
  abbrev pub sketching : Sketch → Ledger Key Value → Ledger Key Value
  sketching k l = record { touch = l.touch; write = l.write; next = l.next; recorded = l.recorded; count = l.count; sketch = k }

  -- all items are gone, the sketch stays
  unfoldable pub sweep_items : Ledger Key Value → Ledger Key Value
  sweep_items l = record { touch = []; write = []; next = l.next; recorded = 0; count = 0; sketch = l.sketch }

-- When a ledger agrees with a cache: it has an item for each entry, and each ticket handed out is held or told.
use Rattle.std.specs.Prelude.{◌≡◌, ℕ, ◌+◌, ◌<◌, ◌≤◌, true, List, map, nat_eq}
use Rattle.rules.specs.Fronts.{among, In, tally}
use Rattle.rules.specs.Kinds.{Kind}
use Rattle.rules.specs.Entries.{Entry, State}
use Rattle.rules.specs.Passes.{written}
use Rattle.rules.specs.Items.{Item, Ledger}
use Rattle.rules.specs.Account.{times, held_tickets}

module _ {Key Value : Type 0} where
  -- an entry as the ledger has it: without its cell and its hash
  abbrev pub as_item : Entry Key Value → Item Key Value
  as_item e = record { ticket = e.ticket; key = e.key; value = e.value; weight = e.weight; touched = e.touched; written = e.written }

  -- the ticket of an entry
  abbrev pub ticket_of : Entry Key Value → ℕ
  ticket_of e = e.ticket

  -- the ledger of a state
  unfoldable pub ledger_of : State Key Value → Ledger Key Value
  ledger_of s = record {
    touch = map as_item s.touch;
    write = map ticket_of (written s);
    next = s.next;
    recorded = s.recorded;
    count = s.count;
    sketch = s.sketch;
  }

  -- what every state of a cache keeps: no two entries share a cell, a ticket or a key; each has its key's hash and a ticket
  -- below the next; and the write order has cells of entries, none of them twice
  pub record Coherent (kind : Kind Key Value) (s : State Key Value) : Type 0 where
    pub cells : (n : ℕ) → tally (λ (e : Entry Key Value). nat_eq e.cell n) s.touch ≤ 1
    pub tickets : (n : ℕ) → tally (λ (e : Entry Key Value). nat_eq e.ticket n) s.touch ≤ 1
    pub keys : (k : Key) → tally (λ (e : Entry Key Value). kind.alike e.key k) s.touch ≤ 1
    pub hashes : (e : Entry Key Value) → In e s.touch → e.hash ≡ kind.hashed e.key
    pub below : (e : Entry Key Value) → In e s.touch → e.ticket < s.next
    pub listed : (n : ℕ) → among s.write n ≡ true → (e : Entry Key Value) × In e s.touch × (e.cell ≡ n)
    pub once : (n : ℕ) → tally (λ m. nat_eq m n) s.write ≤ 1

  -- a state and a ledger beside it, with the tickets told and those handed out so far
  pub record Agrees (kind : Kind Key Value) (s : State Key Value) (l : Ledger Key Value) (told handed : List ℕ) : Type 0 where
    pub coherent : Coherent kind s
    pub same : l ≡ ledger_of s
    pub told_or_held : (n : ℕ) → times n told + times n (held_tickets s) ≡ times n handed
    pub below : (n : ℕ) → s.next ≤ n → times n handed ≡ 0
    pub once : (n : ℕ) → times n handed ≤ 1

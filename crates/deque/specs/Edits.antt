-- Writes to the nodes, and what each makes of the state.
use Rattle.std.specs.Prelude.{ℕ, zero, suc, ◌+◌, ◌-◌, true, List, [], ◌∷◌, Some, None, Option}
use Rattle.links.specs.Places.{pick}
use Rattle.deque.specs.Views.{View, out_with, next_of, prev_of}
use Rattle.deque.specs.Chain.{State}

-- f at place i
abbrev pub edited : {T : Type 0} → (View T → View T) → List (View T) → ℕ → List (View T)
edited f [] i = []
edited f (n ∷ ns) zero = f n ∷ ns
edited f (n ∷ ns) (suc i) = n ∷ edited f ns i

-- f at a place that may be none
abbrev pub edited_at : {T : Type 0} → (View T → View T) → List (View T) → Option ℕ → List (View T)
edited_at f ns None = ns
edited_at f ns (Some i) = edited f ns i

-- the link to the next node is v
abbrev pub next_to : {T : Type 0} → Option ℕ → View T → View T
next_to v n = record { next = v; prev = n.prev; linked = n.linked; element = n.element }

-- the link to the node before is v
abbrev pub prev_to : {T : Type 0} → Option ℕ → View T → View T
prev_to v n = record { next = n.next; prev = v; linked = n.linked; element = n.element }

-- the element is x
abbrev pub element_to : {T : Type 0} → T → View T → View T
element_to x n = record { next = n.next; prev = n.prev; linked = n.linked; element = x }

-- out of every order, with its element as it was
abbrev pub loose : {T : Type 0} → View T → View T
loose n = out_with n.element

-- the last of an order, behind p
abbrev pub fresh : {T : Type 0} → Option ℕ → T → View T → View T
fresh p x n = record { next = None; prev = p; linked = true; element = x }

-- the same ends and count, over the nodes ns
abbrev pub with_nodes : {T : Type 0} → State T → List (View T) → State T
with_nodes s ns = record { ns = ns; head = s.head; tail = s.tail; len = s.len }

-- the same nodes and ends, with the count n
abbrev pub with_len : {T : Type 0} → State T → ℕ → State T
with_len s n = record { ns = s.ns; head = s.head; tail = s.tail; len = n }

-- p and q side by side
abbrev pub bridge_state : {T : Type 0} → State T → Option ℕ → Option ℕ → State T
bridge_state s p q =
    record {
      ns = edited_at (prev_to p) (edited_at (next_to q) s.ns p) q;
      head = pick p q s.head;
      tail = pick q p s.tail;
      len = s.len;
    }

-- node i as the last, not counted
abbrev pub attach_state : {T : Type 0} → State T → ℕ → T → State T
attach_state s i x =
    record {
      ns = edited_at (next_to (Some i)) (edited (fresh s.tail x) s.ns i) s.tail;
      head = pick s.tail (Some i) s.head;
      tail = Some i;
      len = s.len;
    }

-- node i with the element x, behind all others
abbrev pub push_state : {T : Type 0} → State T → ℕ → T → State T
push_state s i x = with_len (attach_state s i x) (s.len + 1)

-- node i out, where p stands before it and q after it
abbrev pub cut_state : {T : Type 0} → State T → ℕ → Option ℕ → Option ℕ → State T
cut_state s i p q = with_len (with_nodes (bridge_state s p q) (edited loose (bridge_state s p q).ns i)) (s.len - 1)

-- node i out, where its links say what stands around it
abbrev pub unlink_state : {T : Type 0} → State T → ℕ → State T
unlink_state s i = cut_state s i (prev_of s.ns i) (next_of s.ns i)

-- the element x at node i
abbrev pub set_state : {T : Type 0} → State T → ℕ → T → State T
set_state s i x = with_nodes s (edited (element_to x) s.ns i)

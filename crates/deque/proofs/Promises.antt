-- What holds of every queue, for callers: these lemmas and the contracts are all that a layer above needs.
-- (Orders.antt and Orderly.antt beside it are about plain lists, and may be cited too.)
use Rattle.std.proofs.Common.{◌≡◌, ℕ, ◌<◌, ◌≤◌, true, false, ltb, List, None, Ok, Err, Option, Result, sym, refl, inl, inr}
use Rattle.std.proofs.lemmas.Bool.{cases_Bool, lt-ltb}
use Rattle.deque.specs.declared.Deque.{Deque}
use Rattle.deque.specs.declared.refusal.Refusal.{Refusal}
use Rattle.deque.specs.declared.refusal.Refusal.TheVariants.{NotLinked}
use Rattle.links.specs.Places.{has, after, distinct}
use Rattle.links.specs.Links.{most}
use Rattle.deque.specs.Chain.{Lies}
use Rattle.deque.specs.Meaning.{state, items, nodes, lent, value_at, places, dropped, moved, replaced, found, by_ok, when_linked, when_pushed, next_answer}
use Rattle.deque.specs.Laws.{EachOnce, MovesToBack, LastHasNoNext}
use Rattle.links.proofs.Orders.{after_none}
use Rattle.deque.proofs.Soundness.{out}
use Rattle.deque.proofs.Items as items_of
use Rattle.deque.proofs.Orderly as orderly
use Rattle.deque.proofs.Outcomes as outcomes

-- the node that `next` told, none where it was refused
abbrev pub ok_or_none : Result (Option ℕ) Refusal → Option ℕ
ok_or_none (Ok o) = o
ok_or_none (Err e) = None

by_same : {X : Type 0} (r : Result (Unit {0}) Refusal) (x : X) → by_ok r x x ≡ x
by_same (Ok u) x = refl
by_same (Err e) x = refl

module _ {T : Type 0} where
  -- ---- what holds of the items
  -- no node stands twice, and every linked node is lent
  pub once : (d : Deque T) → EachOnce (lent d) (items d)
  once d = outcomes.once (state d) d.kept

  pub apart : (d : Deque T) → distinct (places (items d)) ≡ true
  apart d = (once d).apart

  pub within : (d : Deque T) (i : ℕ) → has (places (items d)) i ≡ true → i < lent d
  within d = (once d).within

  -- no more nodes are lent than a link can name
  pub small : (d : Deque T) → lent d ≤ most
  small d = (out (state d) d.kept).small

  -- how the links lie, of nodes that are out too
  pub links_lie : (d : Deque T) → Lies (nodes d) (places (items d))
  links_lie d = items_of.lies_is (state d) (out (state d) d.kept)

  -- a linked node's element is the one that lies in it
  pub found_value : (d : Deque T) (i : ℕ) → has (places (items d)) i ≡ true → found i (items d) ≡ value_at d i
  found_value d i e = let s = state d in items_of.found_value s (out s d.kept) i e

  pub moves : (d : Deque T) → MovesToBack (items d)
  moves d = orderly.moves_to_back (items d) (apart d)

  pub last_ends : (d : Deque T) → LastHasNoNext (items d)
  last_ends d = orderly.last_ends (items d) (apart d)

  -- ---- which calls are done
  pub linked_ok : (d : Deque T) (i : ℕ) → has (places (items d)) i ≡ true → when_linked d i ≡ Ok tt
  linked_ok d i t = rw t

  pub linked_refused : (d : Deque T) (i : ℕ) → has (places (items d)) i ≡ false → when_linked d i ≡ Err NotLinked
  linked_refused d i t = rw t

  pub push_ok : (d : Deque T) (i : ℕ) → i < lent d → has (places (items d)) i ≡ false → when_pushed d i ≡ Ok tt
  push_ok d i l t = let b : ltb i (lent d) ≡ true = lt-ltb i (lent d) l in rw (b, t)

  -- ---- calls that change nothing where the node is no item, so that the answer need not be looked at
  pub dropped_absent : (i : ℕ) (ps : List (ℕ × T)) → has (places ps) i ≡ false → dropped i ps ≡ ps
  dropped_absent = orderly.dropped_absent

  pub unlinked : (d : Deque T) (i : ℕ) → by_ok (when_linked d i) (dropped i (items d)) (items d) ≡ dropped i (items d)
  unlinked d i = elim (cases_Bool (has (places (items d)) i)) [
    | inl t ↦ rw t
    | inr t ↦ let e = dropped_absent i (items d) t in rw e (by_same (when_linked d i) (items d))
  ]

  pub moved_any : (d : Deque T) (i : ℕ) → by_ok (when_linked d i) (moved i (items d)) (items d) ≡ moved i (items d)
  moved_any d i = elim (cases_Bool (has (places (items d)) i)) [
    | inl t ↦ rw t
    | inr t ↦ let e = orderly.moved_absent i (items d) t in rw e (by_same (when_linked d i) (items d))
  ]

  pub replaced_any : (d : Deque T) (i : ℕ) (x : T) → by_ok (when_linked d i) (replaced i x (items d)) (items d) ≡ replaced i x (items d)
  replaced_any d i x = elim (cases_Bool (has (places (items d)) i)) [
    | inl t ↦ rw t
    | inr t ↦ let e = orderly.replaced_absent i x (items d) t in rw e (by_same (when_linked d i) (items d))
  ]

  -- what stands behind a node, none where it is no item
  pub next_place : (d : Deque T) (i : ℕ) → ok_or_none (next_answer d i) ≡ after (places (items d)) i
  next_place d i = elim (cases_Bool (has (places (items d)) i)) [
    | inl t ↦ rw t
    | inr t ↦ rw t (sym (after_none (places (items d)) i t))
  ]

-- A lent node's item is the first of what is left; from a node that is not lent nothing comes.
use Rattle.std.proofs.Common.{◌≡◌, ℕ, ◌-◌, ◌<◌, ◌∷◌, length, get_or, Some, refl, ap, arith}
use Rattle.std.proofs.lemmas.Option.{slice_get_past, slice_get_read}
use Rattle.deque.specs.declared.iter.Iter.{Iter}
use Rattle.deque.specs.declared.node.Node.{Node}
use Rattle.links.specs.Links.{goes_to}
use Rattle.deque.specs.Views.{views, view_of}
use Rattle.deque.specs.Coming.{coming}
use Rattle.deque.proofs.Memory.{length_views, nth_views}
use Rattle.deque.proofs.Items.{item_comes, none_comes}
use Rattle.deque.proofs.iter.IterIterator.next.Goals as goal

first_comes : {T : Type 0} (w : Iter T) (m i : ℕ) (n : Node T) → m ≡ w.left - 1 → 0 < w.left → Some i ≡ goes_to w.next → i < length w.nodes.now → n ≡ get_or w.nodes.now i n → coming w ≡ (i, n.element) ∷ coming record { nodes = w.nodes; next = n.next; left = m }
first_comes w m i n q l e h r = rw q (item_comes (views w.nodes.now) w.left i (view_of n) (goes_to w.next) l e (nth_views w.nodes.now i n (slice_get_read _ _ _ _ refl h r)))

pub returns-in_err-n-clause-steps : goal.returns-in_err-n-clause-steps
returns-in_err-n-clause-steps g c =
    let w = c.args.self.now in
    let k = length_views w.nodes.now in
    let a = c.in_err-n.ensures.lookup.3 in
    let z = none_comes (views w.nodes.now) w.left c.in_ok-i.i _ c.in_ok-i.ensures (slice_get_past (views w.nodes.now) c.in_ok-i.i (omega arith)) in
    rw c.from_residual-in_err-n.ensures (z, z)

pub returns-clause-steps : goal.returns-clause-steps
returns-clause-steps g c =
    let a = c.in_ok-n.ensures.lookup in
    let l : 0 < c.args.self.now.left = omega (arith, c.in_ok-left.ensures) in
    first_comes c.args.self.now c.in_ok-left.left c.in_ok-i.i c.in_ok-n.field-0.now (omega (arith, c.in_ok-left.ensures)) l c.in_ok-i.ensures a.3.0 a.1

pub returns-clause-goes : goal.returns-clause-goes
returns-clause-goes g c =
    let a = c.in_ok-n.ensures.lookup in
    let l : 0 < c.args.self.now.left = omega (arith, c.in_ok-left.ensures) in
    let e = ap length (first_comes c.args.self.now c.in_ok-left.left c.in_ok-i.i c.in_ok-n.field-0.now (omega (arith, c.in_ok-left.ensures)) l c.in_ok-i.ensures a.3.0 a.1) in
    record { on = λ _. (tt, tt, omega arith); keeps = tt; rests = λ _. tt }

-- A write of an element leaves the links as they lie, and replaces the element in the list.
use Rattle.std.proofs.Common.{refl}
use Rattle.deque.proofs.Outcomes.{set_made}
use Rattle.deque.proofs.Deque.set.Goals as goal

pub invariant_of-self : goal.invariant_of-self
invariant_of-self g c =
    record { kept = (set_made c.args.self.now c.args.i c.args.x _ _ c.index-self-i.result c.in_ok-linked.ensures refl).kept }

pub returns-clause-order : goal.returns-clause-order
returns-clause-order g c = (set_made c.args.self.now c.args.i c.args.x _ _ c.index-self-i.result c.in_ok-linked.ensures refl).order

pub returns-clause-values : goal.returns-clause-values
returns-clause-values g c = (set_made c.args.self.now c.args.i c.args.x _ _ c.index-self-i.result c.in_ok-linked.ensures refl).values

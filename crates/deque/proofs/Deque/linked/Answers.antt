-- A node whose mark is set is an item; one that is lent and has no mark, or is not lent, is none.
use Rattle.deque.proofs.Outcomes.{linked_is, unlinked_is, unlent_is}
use Rattle.deque.proofs.Deque.linked.Goals.{in_default-via-in-Some+else-n, in_default-via-in_default}
use Rattle.deque.proofs.Deque.linked.Goals as goal

pub returns-in-Some : goal.returns-in-Some
returns-in-Some g c = let a = c.in-Some.ensures.lookup in linked_is c.args.self.now c.args.i c.in-Some.n.now a.3.0 a.1 c.if-n.true

pub returns-in_default : goal.returns-in_default
returns-in_default g c = elim c.in_default.branch [
  | in_default-via-in-Some+else-n w ↦ let a = w.in-Some.ensures.lookup in unlinked_is c.args.self.now c.args.i w.in-Some.n.now a.3.0 a.1 w.if-n.false
  | in_default-via-in_default w ↦ unlent_is c.args.self.now c.args.i w.in_default.ensures.lookup.3
]

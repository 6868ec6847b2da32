-- The head is the front of the list, and is taken out, so that the rest is left.
use Rattle.deque.proofs.Orderly.{first_in_first_out}
use Rattle.std.proofs.Common.{◌∙◌}
use Rattle.deque.specs.Meaning.{items}
use Rattle.deque.proofs.Outcomes.{head_linked, front_read}
use Rattle.deque.proofs.Orderly.{front_dropped}
use Rattle.deque.proofs.Deque.pop_front.Goals as goal

pub cut-requires : goal.cut-requires
cut-requires g c = head_linked c.args.self.now c.in_ok-i.i c.in_ok-i.ensures c.index-self-i.result c.index-self-i.is

pub returns-clause-answer : goal.returns-clause-answer
returns-clause-answer g c = front_read c.args.self.now c.in_ok-i.i c.in_ok-i.ensures c.index-self-i.result c.index-self-i.is

pub returns-clause-order : goal.returns-clause-order
returns-clause-order g c = c.cut.ensures.order ∙ front_dropped (items c.args.self.now) c.in_ok-i.i _ (front_read c.args.self.now c.in_ok-i.i c.in_ok-i.ensures c.index-self-i.result c.index-self-i.is)

pub returns-in_err-i-clause-runs : goal.returns-in_err-i-clause-runs
returns-in_err-i-clause-runs g c = first_in_first_out _ _

pub returns-clause-runs : goal.returns-clause-runs
returns-clause-runs g c = first_in_first_out _ _

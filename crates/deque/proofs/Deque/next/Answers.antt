use Rattle.deque.proofs.Promises.{last_ends}
use Rattle.deque.proofs.Deque.next.Goals as goal

pub returns-in_err-linked-clause-end : goal.returns-in_err-linked-clause-end
returns-in_err-linked-clause-end g c = last_ends c.args.self.now

pub returns-clause-end : goal.returns-clause-end
returns-clause-end g c = last_ends c.args.self.now

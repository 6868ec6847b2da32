-- No member stands twice, and each is lent.
use Rattle.deque.proofs.Promises.{once}
use Rattle.deque.proofs.Deque.contains.Goals as goal

pub returns-clause-once : goal.returns-clause-once
returns-clause-once g c = once c.args.self.now

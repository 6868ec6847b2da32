-- What lies at the head is the front of the list.
use Rattle.deque.proofs.Outcomes.{front_read}
use Rattle.deque.proofs.Deque.peek_front.Goals as goal

pub returns : goal.returns
returns g c = front_read c.args.self.now c.in_ok-i.i c.in_ok-i.ensures c.index-self-i.result c.index-self-i.is

-- The count is the length of the list.
use Rattle.deque.specs.Meaning.{state}
use Rattle.deque.proofs.Soundness.{out}
use Rattle.deque.proofs.Items.{length_is}
use Rattle.deque.proofs.Deque.len.Goals as goal

pub returns : goal.returns
returns g c = let s = state c.args.self.now in length_is s (out s c.args.self.now.kept)

-- What is handed back is what the queue had, with its links as they lie.
use Rattle.std.proofs.Common.{refl}
use Rattle.deque.specs.Meaning.{state}
use Rattle.deque.proofs.Soundness.{out}
use Rattle.deque.proofs.Items.{lies_is}
use Rattle.deque.proofs.Deque.release.Goals as goal

pub returns : goal.returns
returns g c = let s = state c.args.self in record { memory = refl; owner = refl; links = ∣ lies_is s (out s c.args.self.kept) ∣₁ }

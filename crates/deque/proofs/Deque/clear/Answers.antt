-- With every node out, the links lie as the empty order says.
use Rattle.std.proofs.Common.{refl}
use Rattle.deque.specs.Chain.{said}
use Rattle.deque.specs.Meaning.{state, nodes}
use Rattle.deque.proofs.Soundness.{out}
use Rattle.deque.proofs.Outcomes.{loose_kept, loose_size, loose_value}
use Rattle.deque.proofs.Deque.clear.Goals as goal

pub invariant_of-self : goal.invariant_of-self
invariant_of-self g c =
    let d = c.args.self.now in
    record { kept = loose_kept (said _ _ _ _) (nodes d) c.take_out_all.ensures c.none-self.ensures c.none-self-2.ensures refl (out (state d) d.kept).small }

pub returns : goal.returns
returns g c =
    let d = c.args.self.now in
    record { order = refl; size = loose_size _ (nodes d) c.take_out_all.ensures; owner = refl; values = loose_value _ (nodes d) c.take_out_all.ensures }

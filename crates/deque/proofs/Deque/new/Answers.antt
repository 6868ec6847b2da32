-- The part that is lent, with every node out, is an empty queue, and its elements are those of the slice.
use Rattle.std.proofs.Common.{refl, ◌∙◌, arith}
use Rattle.deque.specs.Chain.{said}
use Rattle.deque.proofs.Memory.{part_size, part_element}
use Rattle.deque.proofs.Outcomes.{loose_kept, loose_size, loose_value}
use Rattle.deque.proofs.Deque.new.Goals as goal

pub invariant_of-result : goal.invariant_of-result
invariant_of-result g c =
    let l = part_size c.min-n.result c.args.nodes.now c.min-n.ensures in
    let m = c.min-n.ensures in
    record { kept = loose_kept (said _ _ _ _) _ c.take_out_all.ensures c.none.ensures c.none-2.ensures refl (omega arith) }

pub returns : goal.returns
returns g c =
    let m = c.min-n.ensures in
    let e = loose_size _ _ c.take_out_all.ensures ∙ part_size c.min-n.result c.args.nodes.now m in
    record { order = refl; size = e ∙ m; values = λ j. loose_value _ _ c.take_out_all.ensures j ∙ part_element c.min-n.result _ c.args.nodes.now j e }

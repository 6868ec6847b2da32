-- A turn takes one node more out.
use Rattle.std.proofs.Common.{◌<◌, length, ◌∙◌, add-one, arith}
use Rattle.deque.specs.Views.{views}
use Rattle.deque.specs.Edits.{edited, loose}
use Rattle.deque.proofs.Memory.{length_views, set_node, edited_more}
use Rattle.deque.proofs.calls.take_out_all.Goals as goal

pub loop-node-preserved : goal.loop-node-preserved
loop-node-preserved g c =
    let vs = views c.args.nodes.now in
    let i = c.loop-node.node-index in
    let k = length_views c.args.nodes.now in
    let l : i < length vs = omega arith in
    rw add-one
    (set_node loose c.loop-node.nodes i c.new.result c.node-item.result c.new.ensures
    ∙ (λ k. edited loose (c.loop-node.invariant k) i)
    ∙ edited_more loose vs i l)

-- The nodes passed are out, and the others are as they were.
use Rattle.std.proofs.Common.{◌≡◌, ◌++◌, map, take, drop}
use Rattle.deque.specs.Views.{views}
use Rattle.deque.specs.Edits.{loose}
use Rattle.deque.proofs.calls.take_out_all.Given as goal

abbrev pub invariant-loop-node : goal.invariant-loop-node
invariant-loop-node g l =
    views l.nodes ≡ map loose (take l.node-index (views l.initial.nodes)) ++ drop l.node-index (views l.initial.nodes)

-- What a walk along a queue has still to give.
use Rattle.std.specs.Prelude.{ℕ, List}
use Rattle.deque.specs.declared.iter.Iter.{Iter}
use Rattle.deque.specs.Chain.{said, meaning}

-- the linked nodes from the next one on, with their elements, for as many as are left
abbrev pub coming : {T : Type 0} → Iter T → List (ℕ × T)
coming w = meaning (said w.nodes.now w.next w.next w.left)

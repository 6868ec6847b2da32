-- Where the node is the last nothing is done; otherwise it is taken out, and pushed again with its element.
use Rattle.std.proofs.Common.{sym, ◌∙◌}
use Rattle.deque.proofs.Promises.{moves}
use Rattle.deque.proofs.Outcomes.{free_after, moved_is, last_is, not_last}
use Rattle.deque.proofs.Deque.move_to_back.Goals as goal

pub returns-then-eq-clause-order : goal.returns-then-eq-clause-order
returns-then-eq-clause-order g c = sym ((moves c.args.self.now).stays c.args.i (last_is c.args.self.now c.args.i c.target.result c.target.ensures (sym c.eq.ensures ∙ c.if-eq.true)))

pub link-requires : goal.link-requires
link-requires g c = free_after c.args.self.now c.cut.new.self c.args.i c.in_ok-moved.moved c.in_ok-moved.ensures c.cut.ensures

pub returns-clause-order : goal.returns-clause-order
returns-clause-order g c = c.link.ensures.order ∙ moved_is c.args.self.now c.args.i c.in_ok-moved.moved _ c.in_ok-moved.ensures c.cut.ensures.order

pub returns-clause-stays : goal.returns-clause-stays
returns-clause-stays g c = λ l. absurd (not_last c.args.self.now c.args.i c.target.result c.target.ensures (sym c.eq.ensures ∙ c.if-eq.false) l)

pub returns-in_err-moved-clause-moves : goal.returns-in_err-moved-clause-moves
returns-in_err-moved-clause-moves g c = moves c.args.self.now

pub returns-then-eq-clause-moves : goal.returns-then-eq-clause-moves
returns-then-eq-clause-moves g c = moves c.args.self.now

pub returns-clause-moves : goal.returns-clause-moves
returns-clause-moves g c = moves c.args.self.now

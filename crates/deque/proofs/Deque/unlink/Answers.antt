-- The node that was taken out is no member.
use Rattle.std.proofs.Common.{ℕ, List, ap, ◌∙◌}
use Rattle.links.specs.Places.{has}
use Rattle.deque.specs.Meaning.{items, places}
use Rattle.deque.proofs.Orderly.{dropped_out, unlink_then_push}
use Rattle.deque.proofs.Promises.{apart}
use Rattle.deque.proofs.Deque.unlink.Goals as goal

pub returns-clause-out : goal.returns-clause-out
returns-clause-out g c = let d = c.args.self.now in ap (λ (l : List (ℕ × g.row.T.Denot)). has (places l) c.args.i) c.cut.ensures.order ∙ dropped_out c.args.i (items d) (apart d)

pub returns-in_err-n-clause-again : goal.returns-in_err-n-clause-again
returns-in_err-n-clause-again g c = unlink_then_push (items c.args.self.now)

pub returns-clause-again : goal.returns-clause-again
returns-clause-again g c = unlink_then_push (items c.args.self.now)

-- The walk gives those who wait, and each is asked for the time of coming.
use Rattle.std.proofs.Common.{ℕ, nat_le, rules, tests}
use Rattle.std.proofs.lemmas.Iterator.Consumers.{YieldsList-from_first}
use Rattle.std.proofs.lemmas.Iterator.Search.{any_from_yields_List}
use Rattle.deque.specs.Coming.{coming}
use Rattle.deque_edges.proofs.Desk.has_since.Goals as goal

pub returns : goal.returns
returns c = any_from_yields_List (λ (p : ℕ × ℕ). nat_le c.args.at p.1) c.any.new.self _ _ c.any.ensures.ran (YieldsList-from_first (λ x. x) coming _ c.iter.ensures) (λ x b q k. search (rules, tests))

use Rattle.std.proofs.Common.{rules}
use borrow.Author.Tests.{tests}
use Rattle.std.proofs.Common.{not, eqb}
use Rattle.std.proofs.lemmas.Iterator.Consumers.{YieldsList-from_first, YieldsList-at}
use Rattle.std.proofs.lemmas.Iterator.Search.{YieldsList-from_take_while}
use Rattle.table.specs.Meaning.{to_come}
use Rattle.table.proofs.Walks.{last_of}
use Rattle.table.proofs.lent.Table.before.Goals as goal

pub returns : goal.returns
returns g c =
    last_of _ _ c.last.ensures.ran
    (YieldsList-from_take_while _ (λ j. not (eqb j c.args.i)) (YieldsList-at c.take_while.ensures.source (YieldsList-from_first (λ x. x) to_come _ c.chain.ensures)) c.take_while.ensures.closure c.take_while.ensures.done (λ x b q k. search (rules, tests)))

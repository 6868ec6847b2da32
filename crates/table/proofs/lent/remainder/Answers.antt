use Rattle.table.proofs.Masks.{masked}
use Rattle.table.proofs.lent.remainder.Goals as goal

pub returns-then-n-mask-eq0 : goal.returns-then-n-mask-eq0
returns-then-n-mask-eq0 c = masked c.args.a c.args.n c.requires c.if-n-mask-eq0.true

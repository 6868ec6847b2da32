use Rattle.std.proofs.Common.{rules}
use Rattle.index.specs.Meaning.{entries}
use Rattle.index.proofs.Promises.{whole}
use Rattle.index.proofs.kept.Index.get.Goals as goal

pub returns : goal.returns
unfolding entries
returns g c = let e = c.get.ensures (whole c.args.self.now) in search rules

use Rattle.std.proofs.Common.{refl}
use Rattle.table.proofs.Outcomes.{emptied_is}
use Rattle.table.proofs.lent.Table.new.Goals as goal

pub returns : goal.returns
returns g c = emptied_is c.args.cells.now c.clear_heads.new.heads _ c.none.result _ refl c.none.ensures c.clear_heads.auto.heads c.clear_heads.ensures

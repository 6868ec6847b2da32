use Rattle.std.proofs.Common.{◌/◌, refl, arith}
use Rattle.std.proofs.lemmas.Nat.{mod_below}
use Rattle.sketch.specs.Tables.{spread, mixed}
use Rattle.sketch.proofs.Depths.{place_is}
use Rattle.sketch.proofs.Powers.{table_power, table_some}
use Rattle.sketch.proofs.meter.Meter.index_of.Goals as goal

pub overflow_sub-result : goal.overflow_sub-result
overflow_sub-result c = omega (arith, table_some c.args.self.now)

pub returns : goal.returns
returns c =
    let m = c.args.self.now in
    let p = table_power m.table_len (m.sample_size / 10) m.power in
    let e = place_is m.table_len c.args.hash c.args.seed p _ refl in
    let b = mod_below (spread (mixed c.args.hash c.args.seed)) m.table_len (table_some m) in
    record { is = e; below = omega (arith, e, b) }

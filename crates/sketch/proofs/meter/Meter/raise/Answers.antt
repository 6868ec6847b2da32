use Rattle.std.proofs.Common.{◌≡◌, refl, ap, ◌∙◌, le_refl, arith}
use Rattle.sketch.specs.Tables.{place, held, raised_at}
use Rattle.sketch.proofs.Depths.{raised_to, rises_to, raised_to_all, rises_to_all, raised_to_more, rises_to_more, held_raised_to, number_is}
use Rattle.sketch.proofs.meter.Meter.raise.Goals as goal

pub loop-depth-init : goal.loop-depth-init
unfolding raised_to rises_to
loop-depth-init c = (refl, refl)

pub loop-depth-preserved : goal.loop-depth-preserved
unfolding held raised_at place
loop-depth-preserved c =
    let ws = c.args.table.now in
    let h = c.args.hash in
    let d = c.loop-depth.depth in
    let n = number_is h d in
    let t = raised_to_more ws h d in
    let r = rises_to_more ws h d in
    let k = held_raised_to ws h d d (le_refl d) in
    (cc, cc)

pub returns : goal.returns
returns c =
    let e : c.loop-depth.depth ≡ 4 = omega arith in
    record {
      words = c.loop-depth.invariant.0 ∙ ap (raised_to c.args.table.now c.args.hash) e ∙ raised_to_all c.args.table.now c.args.hash;
      rose = c.loop-depth.invariant.1 ∙ ap (rises_to c.args.table.now c.args.hash) e ∙ rises_to_all c.args.table.now c.args.hash;
    }

use Rattle.std.proofs.Common.{rules, ℕ, ◌+◌, ◌*◌, ◌%◌, ◌∙◌, Option, sym, ap, get_or, bit_and, arith}
use mir.Facts.{Fits-below}
use Rattle.std.specs.Option.{unwrap_or}
use Rattle.std.proofs.lemmas.Iterator.Adapters.{option_map_id}
use Rattle.std.proofs.lemmas.Iterator.{YieldsList-from_slice, YieldsList-from_map}
use Rattle.std.proofs.lemmas.Iterator.Consumers.{YieldsList-from_enumerate, YieldsList-at, min_from_yields_List}
use Rattle.sketch.specs.Counters.{counter}
use Rattle.sketch.specs.Tables.{seeds, spread, mixed, estimate, held, place}
use Rattle.sketch.proofs.Depths.{number_is, estimate_le}
use Rattle.sketch.proofs.meter.Meter.estimate.Goals as goal

pub returns : goal.returns
unfolding estimate held place
returns c =
    let ws = c.args.table.now in
    let hash = c.args.hash in
    let n = c.args.self.now.table_len in
    let m = min_from_yields_List c.map-counters.result c.min.result c.min.ensures.ran
    (YieldsList-from_map _ (λ (p : ℕ × ℕ). counter (get_or ws (spread (mixed hash p.1) % n) 0) (4 * bit_and hash 3 + p.0))
    (YieldsList-at c.map-counters.ensures.source (YieldsList-from_enumerate (YieldsList-at c.enumerate.ensures.source (YieldsList-from_slice seeds (cc))) (cc))) c.map-counters.ensures.closure (λ x r q k. search rules)) in
    let i = option_map_id c.min.result in
    let e0 = number_is hash 0 in
    let e1 = number_is hash 1 in
    let e2 = number_is hash 2 in
    let e3 = number_is hash 3 in
    c.unwrap_or.ensures ∙ ap (λ (o : Option ℕ). unwrap_or o 0) (sym i ∙ m) ∙ cc

pub overflow_cast-result : goal.overflow_cast-result
overflow_cast-result c = Fits-below {n = 15} tt (omega (arith, returns c, estimate_le c.args.table.now c.args.hash))

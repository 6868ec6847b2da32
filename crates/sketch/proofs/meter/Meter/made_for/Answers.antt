use Rattle.std.proofs.Common.{◌≡◌, ◌*◌, ◌/◌, ◌≤◌, ◌^◌, ap, ◌∙◌, sym, subst, arith}
use Rattle.sketch.specs.Powers.{least_power, LeastPower}
use Rattle.sketch.proofs.Powers.{least_power_is, least_power_unique}
use Rattle.sketch.proofs.meter.Meter.made_for.Goals as goal

pub invariant_of-result : goal.invariant_of-result
invariant_of-result c =
    let h = c.args.hashes in
    let e = c.next_power_of_two.ensures in
    let u = least_power_unique h c.next_power_of_two.result e.power e.lower_bound e.upper_bound in
    let m : h ≡ 10 * h / 10 = omega arith in
    let few : h ≤ 2 ^ 13 = omega arith in
    record { short = omega arith; tens = omega arith; power = u ∙ ap least_power m; few = omega (arith, u, (least_power_is h).least 13 few) }

pub returns-clause-least : goal.returns-clause-least
returns-clause-least c =
    let e = c.next_power_of_two.ensures in
    let u = least_power_unique c.args.hashes c.next_power_of_two.result e.power e.lower_bound e.upper_bound in
    subst (LeastPower c.args.hashes) (sym u) (least_power_is c.args.hashes)

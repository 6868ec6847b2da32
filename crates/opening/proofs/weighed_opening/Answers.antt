use Rattle.std.proofs.Common.{◌∙◌}
use Rattle.opening.proofs.Fractions as fractions
use Rattle.opening.proofs.weighed_opening.Goals as goal

pub truncating_f64_to_u64-requires : goal.truncating_f64_to_u64-requires
truncating_f64_to_u64-requires c =
    let a = c.args in
    let p = c.requires in
    let h = fractions.product a.entries a.recorded a.capacity p.entries p.recorded p.capacity.0 p.capacity.1 c.nearest_u64_to_f64.result c.nearest_u64_to_f64-2.result c.nearest_u64_to_f64-3.result
    c.nearest_u64_to_f64.ensures c.nearest_u64_to_f64-2.ensures c.nearest_u64_to_f64-3.ensures in
    record {
      lower_bound = fractions.low a.entries a.recorded a.capacity p.entries p.recorded p.capacity.0 p.capacity.1 _ h;
      upper_bound = fractions.high a.entries a.recorded a.capacity p.entries p.recorded p.capacity.0 p.capacity.1 _ h;
    }

pub returns : goal.returns
returns c =
    let a = c.args in
    let p = c.requires in
    let h = fractions.product a.entries a.recorded a.capacity p.entries p.recorded p.capacity.0 p.capacity.1 c.nearest_u64_to_f64.result c.nearest_u64_to_f64-2.result c.nearest_u64_to_f64-3.result
    c.nearest_u64_to_f64.ensures c.nearest_u64_to_f64-2.ensures c.nearest_u64_to_f64-3.ensures in
    c.truncating_f64_to_u64.ensures ∙ fractions.whole a.entries a.recorded a.capacity p.entries p.recorded p.capacity.0 p.capacity.1 _ h

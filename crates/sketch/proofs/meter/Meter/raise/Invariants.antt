use Rattle.std.proofs.Common.{◌≡◌}
use Rattle.sketch.proofs.Depths.{raised_to, rises_to}
use Rattle.sketch.proofs.meter.Meter.raise.Given as goal

abbrev pub invariant-loop-depth : goal.invariant-loop-depth
invariant-loop-depth l = (l.table ≡ raised_to l.initial.table l.hash l.depth) × (l.rose ≡ rises_to l.initial.table l.hash l.depth)

use lib.Bits.{and_mask}
use Rattle.sketch.specs.Counters.{counter}
use Rattle.sketch.proofs.counters.counter_of.Goals as goal

pub returns : goal.returns
unfolding counter
returns c = and_mask _ 4

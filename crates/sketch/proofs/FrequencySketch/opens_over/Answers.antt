use Rattle.std.proofs.Common.{arith}
use Rattle.std.proofs.lemmas.Bool.Decides.{nat_tests}
use Rattle.sketch.specs.Sketches.{opens_over}
use Rattle.sketch.proofs.Powers.{power_test}
use Rattle.sketch.proofs.FrequencySketch.opens_over.Goals as goal

pub returns-then-contains : goal.returns-then-contains
unfolding opens_over
returns-then-contains c = grind (arith, nat_tests, power_test)

pub returns-else-contains : goal.returns-else-contains
unfolding opens_over
returns-else-contains c = grind (arith, nat_tests)

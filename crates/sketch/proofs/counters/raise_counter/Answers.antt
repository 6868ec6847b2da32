use Rattle.std.proofs.Common.{arith}
use Rattle.sketch.proofs.Word.{raise_fits, raise_is, raised_full}
use Rattle.sketch.proofs.counters.raise_counter.Goals as goal

pub overflow_add-word : goal.overflow_add-word
overflow_add-word c = grind (arith, raise_fits)

pub returns-then-rises-clause-word : goal.returns-then-rises-clause-word
returns-then-rises-clause-word c = grind (arith, raise_is)

pub returns-else-rises-clause-word : goal.returns-else-rises-clause-word
returns-else-rises-clause-word c = grind (arith, raised_full)

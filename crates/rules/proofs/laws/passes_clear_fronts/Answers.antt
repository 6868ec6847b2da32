use Rattle.rules.proofs.Clearing.{passes_clear}
use Rattle.rules.proofs.laws.passes_clear_fronts.Goals as goal

pub returns : goal.returns
returns g c = passes_clear

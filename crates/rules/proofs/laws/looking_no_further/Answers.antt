use Rattle.rules.proofs.Clearing.{least_run}
use Rattle.rules.proofs.laws.looking_no_further.Goals as goal

pub returns : goal.returns
returns g c = least_run

use Rattle.rules.proofs.Refusing.{late_is_refused}
use Rattle.rules.proofs.laws.late_is_refused.Goals as goal

pub returns : goal.returns
returns g c = late_is_refused

use Rattle.rules.proofs.Staying.{stays}
use Rattle.rules.proofs.laws.others_stay.Goals as goal

pub returns : goal.returns
returns g c = stays

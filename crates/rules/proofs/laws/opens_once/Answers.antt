use Rattle.rules.proofs.Exactness.{opens_once}
use Rattle.rules.proofs.Nearness.{rounds_to_nearest}
use Rattle.rules.proofs.laws.opens_once.Goals as goal

pub returns : goal.returns
returns c = record { once = opens_once; rounded = rounds_to_nearest }

use Rattle.ch_cost.proofs.Metering.{cost_metered}
use Rattle.ch_cost.proofs.laws.cost_is_metered.Goals as goal

pub returns : goal.returns
returns c = cost_metered

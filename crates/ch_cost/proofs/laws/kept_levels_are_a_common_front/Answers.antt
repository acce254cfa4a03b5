use Rattle.ch_cost.proofs.Levels.{common_front}
use Rattle.ch_cost.proofs.laws.kept_levels_are_a_common_front.Goals as goal

pub returns : goal.returns
returns c = common_front

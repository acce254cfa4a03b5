use Rattle.ch_rank.proofs.Ending.{trials_apart, trials_few, trials_in_grid}
use Rattle.ch_rank.proofs.laws.trials_are_points.Goals as goal

pub returns : goal.returns
returns c = record { in_grid = trials_in_grid; apart = trials_apart; few = trials_few }

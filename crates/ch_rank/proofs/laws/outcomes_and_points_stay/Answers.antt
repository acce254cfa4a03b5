use Rattle.ch_rank.proofs.Growing.{outcomes_stay, points_stay}
use Rattle.ch_rank.proofs.laws.outcomes_and_points_stay.Goals as goal

pub returns : goal.returns
returns c = record { outcomes = outcomes_stay; points = points_stay }

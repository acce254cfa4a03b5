use Rattle.ch_session.proofs.Legal.{points_keep}
use Rattle.ch_session.proofs.laws.points_stay.Goals as goal

pub returns : goal.returns
returns c = points_keep

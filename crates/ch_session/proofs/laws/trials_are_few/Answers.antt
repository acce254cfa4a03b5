use Rattle.ch_session.proofs.Legal.{trials_below}
use Rattle.ch_session.proofs.Claims.{claims_few}
use Rattle.ch_session.proofs.laws.trials_are_few.Goals as goal

pub returns : goal.returns
returns c = record { below = trials_below; claims = claims_few }

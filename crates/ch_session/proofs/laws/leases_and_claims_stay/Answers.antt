use Rattle.ch_session.proofs.Legal.{stays_held, stays_claimed}
use Rattle.ch_session.proofs.laws.leases_and_claims_stay.Goals as goal

pub returns : goal.returns
returns c = record { held = stays_held; claimed = stays_claimed }

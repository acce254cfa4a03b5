use Rattle.ch_session.proofs.Legal.{claimed_once, one_claimant}
use Rattle.ch_session.proofs.laws.trials_are_claimed_once.Goals as goal

pub returns : goal.returns
returns c = record { once = claimed_once; one_builder = one_claimant }

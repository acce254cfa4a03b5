use Rattle.ch_session.proofs.Leases.{one_lease}
use Rattle.ch_session.proofs.laws.clients_hold_one_trial.Goals as goal

pub returns : goal.returns
returns c = one_lease

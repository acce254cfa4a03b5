use Rattle.ch_conduct.proofs.Leaving.{holds_none}
use Rattle.ch_conduct.proofs.laws.clients_hold_nothing.Goals as goal

pub returns : goal.returns
returns c = holds_none

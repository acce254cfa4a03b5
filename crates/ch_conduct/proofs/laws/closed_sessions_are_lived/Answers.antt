use Rattle.ch_conduct.proofs.Closing.{session_lived}
use Rattle.ch_conduct.proofs.laws.closed_sessions_are_lived.Goals as goal

pub returns : goal.returns
returns c = session_lived

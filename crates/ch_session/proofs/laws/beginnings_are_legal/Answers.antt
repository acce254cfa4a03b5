use Rattle.ch_session.proofs.Legal.{legal_front}
use Rattle.ch_session.proofs.laws.beginnings_are_legal.Goals as goal

pub returns : goal.returns
returns c = legal_front

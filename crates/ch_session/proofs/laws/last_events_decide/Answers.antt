use Rattle.ch_session.proofs.Lasting.{last_held, last_claimed}
use Rattle.ch_session.proofs.laws.last_events_decide.Goals as goal

pub returns : goal.returns
returns c = record { held = last_held; claimed = last_claimed }

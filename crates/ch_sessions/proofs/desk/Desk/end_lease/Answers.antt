use Rattle.ch_sessions.proofs.Knowing.{stays_after}
use Rattle.ch_sessions.proofs.desk.Desk.end_lease.Goals as goal

pub returns : goal.returns
returns g c = stays_after _ _ _ _ _ _ c.leave.ensures.turn.1 c.requires.fits

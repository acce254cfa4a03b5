use Rattle.ch_sessions.proofs.Knowing.{stays_after}
use Rattle.ch_sessions.proofs.desk.Desk.put_cost.Goals as goal

pub returns : goal.returns
returns g c = stays_after _ _ _ _ _ _ c.report.ensures.turn.1 c.requires.fits

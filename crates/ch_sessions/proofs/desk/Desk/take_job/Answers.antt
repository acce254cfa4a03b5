use Rattle.ch_sessions.proofs.Knowing.{stays_after}
use Rattle.ch_sessions.proofs.desk.Desk.take_job.Goals as goal

pub returns-clause-desk : goal.returns-clause-desk
returns-clause-desk g c = stays_after _ _ _ _ _ _ c.claim.ensures.turn.1 c.requires.fits

use Rattle.ch_sessions.proofs.Knowing.{stays_after}
use Rattle.ch_sessions.proofs.desk.Desk.put_build.Goals as goal

pub returns : goal.returns
returns g c = stays_after _ _ _ _ _ _ c.built.ensures.turn.1 c.requires.fits

use Rattle.std.proofs.Common.{length}
use Rattle.ch_nest.proofs.flat.+low_at.Given as goal

abbrev pub decreases-low_at : goal.decreases-low_at
decreases-low_at l = length l.lows.now

use Rattle.std.proofs.Common.{length}
use Rattle.ch_nest.proofs.flat.+high_at.Given as goal

abbrev pub decreases-high_at : goal.decreases-high_at
decreases-high_at l = length l.highs.now

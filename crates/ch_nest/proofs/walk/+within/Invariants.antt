use Rattle.std.proofs.Common.{length}
use Rattle.ch_nest.proofs.walk.+within.Given as goal

abbrev pub decreases-within : goal.decreases-within
decreases-within l = length l.extents.now

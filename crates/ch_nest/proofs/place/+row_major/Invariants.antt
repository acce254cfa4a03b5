use Rattle.std.proofs.Common.{length}
use Rattle.ch_nest.proofs.place.+row_major.Given as goal

abbrev pub decreases-row_major : goal.decreases-row_major
decreases-row_major l = length l.extents.now

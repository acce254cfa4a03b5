use Rattle.std.proofs.Common.{length}
use Rattle.ch_nest.proofs.cells.+cells_up_to.Given as goal

abbrev pub decreases-cells_up_to : goal.decreases-cells_up_to
decreases-cells_up_to l = length l.extents.now

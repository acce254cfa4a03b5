use Rattle.std.proofs.Common.{length}
use Rattle.ch_eval.proofs.eval.+capped_cells.Given as goal

abbrev pub decreases-capped_cells : goal.decreases-capped_cells
decreases-capped_cells l = length l.extents.now

use Rattle.std.proofs.Common.{length}
use Rattle.ch_depends.proofs.cells.+has_cell.Given as goal

abbrev pub decreases-has_cell : goal.decreases-has_cell
decreases-has_cell l = length l.cells.now

use Rattle.std.proofs.Common.{ℕ, length}
use Rattle.ch_rows.proofs.Taking.{Takes}
use Rattle.ch_rows.proofs.row.take_row.Given as goal

abbrev pub invariant-loop-other : goal.invariant-loop-other
invariant-loop-other g l = Takes l.books l.fn.seats l.fn.row.items l.row.items l.seats

abbrev pub decreases-loop-other : goal.decreases-loop-other
decreases-loop-other g l = length l.row.items

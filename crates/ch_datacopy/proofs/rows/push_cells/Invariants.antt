use Rattle.std.proofs.Common.{◌≡◌, ◌++◌, drop}
use Rattle.ch_datacopy.specs.Cells.{cell_ties}
use Rattle.ch_datacopy.proofs.rows.push_cells.Given as goal

abbrev pub invariant-loop-k : goal.invariant-loop-k
invariant-loop-k l =
    l.rows ++ cell_ties l.frame.around l.frame.inner l.k (drop l.k l.forms) ≡ l.initial.rows ++ cell_ties l.frame.around l.frame.inner 0 l.forms

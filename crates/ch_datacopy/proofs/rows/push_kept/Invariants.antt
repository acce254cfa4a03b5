use Rattle.std.proofs.Common.{◌≡◌, ◌++◌, map, take}
use Rattle.ch_datacopy.specs.Cells.{kept_row}
use Rattle.ch_datacopy.proofs.rows.push_kept.Given as goal

abbrev pub invariant-loop-row : goal.invariant-loop-row
invariant-loop-row l = l.rows ≡ l.initial.rows ++ map (kept_row l.frame.around l.frame.cells l.frame.iters) (take l.row-index l.old)

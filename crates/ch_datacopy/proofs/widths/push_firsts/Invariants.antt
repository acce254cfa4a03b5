use Rattle.std.proofs.Common.{◌≡◌, ◌++◌, map, take}
use Rattle.ch_datacopy.specs.Cells.{kept_row}
use Rattle.ch_datacopy.proofs.widths.push_firsts.Given as goal

abbrev pub invariant-loop-row : goal.invariant-loop-row
invariant-loop-row l = l.rows ≡ l.initial.rows ++ map (kept_row l.levels l.cells l.hidden) (take l.row-index l.first.system.rows)

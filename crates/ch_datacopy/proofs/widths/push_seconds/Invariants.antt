use Rattle.std.proofs.Common.{◌≡◌, ◌++◌, map, take}
use Rattle.ch_datacopy.specs.Pairs.{second_row}
use Rattle.ch_datacopy.proofs.widths.push_seconds.Given as goal

abbrev pub invariant-loop-row : goal.invariant-loop-row
invariant-loop-row l = l.rows ≡ l.initial.rows ++ map (second_row l.around l.cells l.hidden) (take l.row-index l.second.system.rows)

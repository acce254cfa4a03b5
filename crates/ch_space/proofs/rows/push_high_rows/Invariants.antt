use Rattle.std.proofs.Common.{◌≡◌, ◌++◌, map, take}
use Rattle.ch_space.specs.Built.{high_row}
use Rattle.ch_space.proofs.rows.push_high_rows.Given as goal

abbrev pub invariant-loop-high : goal.invariant-loop-high
invariant-loop-high l = l.rows ≡ l.initial.rows ++ map (high_row l.loops) (take l.high-index l.highs)

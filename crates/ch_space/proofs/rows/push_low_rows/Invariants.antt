use Rattle.std.proofs.Common.{◌≡◌, ◌++◌, map, take}
use Rattle.ch_space.specs.Built.{low_row}
use Rattle.ch_space.proofs.rows.push_low_rows.Given as goal

abbrev pub invariant-loop-low : goal.invariant-loop-low
invariant-loop-low l = l.rows ≡ l.initial.rows ++ map (low_row l.loops) (take l.low-index l.lows)

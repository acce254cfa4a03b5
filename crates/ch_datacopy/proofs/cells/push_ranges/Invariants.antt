use Rattle.std.proofs.Common.{◌≡◌, ◌++◌, take}
use Rattle.ch_datacopy.proofs.cells.push_ranges.Given as goal

abbrev pub invariant-loop-range : goal.invariant-loop-range
invariant-loop-range l = l.ranges ≡ l.initial.ranges ++ take l.range-index l.more

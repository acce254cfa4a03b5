use Rattle.std.proofs.Common.{◌≡◌, ◌++◌, map, take}
use Rattle.ch_space.specs.Following.{single}
use Rattle.ch_pieces.proofs.count.push_singles.Given as goal

abbrev pub invariant-loop-value : goal.invariant-loop-value
invariant-loop-value l = l.ranges ≡ l.initial.ranges ++ map single (take l.value-index l.values)

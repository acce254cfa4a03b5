use Rattle.std.proofs.Common.{◌≡◌, map, take}
use Rattle.ch_space.specs.Negated.{negated_range}
use Rattle.ch_space.proofs.extremes.negated_ranges.Given as goal

abbrev pub invariant-loop-range : goal.invariant-loop-range
invariant-loop-range l = l.others ≡ map negated_range (take l.range-index l.boxes)

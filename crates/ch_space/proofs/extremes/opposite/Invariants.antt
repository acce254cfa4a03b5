use Rattle.std.proofs.Common.{◌≡◌, map, take, neg_ℤ}
use Rattle.ch_space.proofs.extremes.opposite.Given as goal

abbrev pub invariant-loop-number : goal.invariant-loop-number
invariant-loop-number l = l.others ≡ map neg_ℤ (take l.number-index l.numbers)

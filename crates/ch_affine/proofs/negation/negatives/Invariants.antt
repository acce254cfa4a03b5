use Rattle.std.proofs.Common.{◌≡◌, map, neg_ℤ, take}
use Rattle.ch_affine.proofs.negation.negatives.Given as goal

abbrev pub invariant-loop-number : goal.invariant-loop-number
invariant-loop-number l = l.others ≡ map neg_ℤ (take l.number-index l.numbers)

use Rattle.std.proofs.Common.{◌≡◌, map, neg_ℤ, take}
use Rattle.ch_space.proofs.rows.negated.Given as goal

abbrev pub invariant-loop-number : goal.invariant-loop-number
invariant-loop-number l = l.negated ≡ map neg_ℤ (take l.number-index l.numbers)

use Rattle.std.proofs.Common.{◌≡◌, ◌+◌, drop}
use Rattle.ch_permute.specs.Permuted.{moving}
use Rattle.ch_permute.proofs.ordering.first_moving.Given as goal

abbrev pub invariant-loop-k : goal.invariant-loop-k
invariant-loop-k l = moving 1 l.order ≡ moving (l.k + 1) (drop l.k l.order)

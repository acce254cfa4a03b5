use Rattle.std.proofs.Common.{◌≡◌, ◌+◌, drop}
use Rattle.ch_permute.specs.Permuted.{last_from, moving}
use Rattle.ch_permute.proofs.ordering.last_moving.Given as goal

abbrev pub invariant-loop-k : goal.invariant-loop-k
invariant-loop-k l = last_from l.fn.first (moving (l.fn.first + 1) (drop l.fn.first l.order)) ≡ last_from l.last (moving (l.k + 1) (drop l.k l.order))

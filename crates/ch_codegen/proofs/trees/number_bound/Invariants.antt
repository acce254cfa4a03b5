use Rattle.std.proofs.Common.{◌≡◌, pos, replicate}
use Rattle.ch_codegen.proofs.trees.number_bound.Given as goal

abbrev pub invariant-loop-k : goal.invariant-loop-k
invariant-loop-k l = l.coefs ≡ replicate l._k (pos 0)

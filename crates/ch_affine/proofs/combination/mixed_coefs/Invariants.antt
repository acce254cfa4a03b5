use Rattle.std.proofs.Common.{◌≡◌, ◌++◌, drop}
use Rattle.ch_affine.specs.Combined.{combined_coefs}
use Rattle.ch_affine.proofs.combination.mixed_coefs.Given as goal

abbrev pub invariant-loop-k : goal.invariant-loop-k
invariant-loop-k l = l.coefs ++ combined_coefs l.a (drop l.k l.xs) l.b (drop l.k l.ys) ≡ combined_coefs l.a l.xs l.b l.ys

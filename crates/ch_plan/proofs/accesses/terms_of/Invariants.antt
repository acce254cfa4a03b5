use Rattle.std.proofs.Common.{◌≡◌, ℤ, List, take}
use Rattle.ch_affine.specs.Affine.{dot}
use Rattle.ch_plan.specs.Planned.{weighed}
use Rattle.ch_plan.proofs.accesses.terms_of.Given as goal

abbrev pub invariant-loop-k : goal.invariant-loop-k
invariant-loop-k l = (point : List ℤ) → weighed l.terms point ≡ dot (take l.k l.coefs) point

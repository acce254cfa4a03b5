use Rattle.std.proofs.Common.{◌≡◌, ℤ, List, take}
use Rattle.ch_affine.specs.Affine.{dot}
use Rattle.ch_plan.specs.Planned.{mixed}
use Rattle.ch_plan.specs.Ready.{IsPoint, iters_at}
use Rattle.ch_plan.proofs.accesses.weights_of.Given as goal

abbrev pub invariant-loop-k : goal.invariant-loop-k
invariant-loop-k l =
    (point : List ℤ) → IsPoint l.site.origin.now l.site.around point → mixed l.weights point ≡ dot (take l.k l.coefs) (iters_at l.site.origin.now (take l.site.around point))

use Rattle.std.proofs.Common.{◌≡◌, map, take}
use Rattle.ch_affine.specs.Affine.{value}
use Rattle.ch_space.proofs.extremes.identity_at.Given as goal

abbrev pub invariant-loop-form : goal.invariant-loop-form
invariant-loop-form l = l.iters ≡ map (λ f. value f l.instance) (take l.form-index l.piece.origin)

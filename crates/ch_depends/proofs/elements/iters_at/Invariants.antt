use Rattle.std.proofs.Common.{◌≡◌, map, take}
use Rattle.ch_affine.specs.Affine.{value}
use Rattle.ch_depends.proofs.elements.iters_at.Given as goal

abbrev pub invariant-loop-form : goal.invariant-loop-form
invariant-loop-form l = l.iters ≡ map (λ f. value f l.values) (take l.form-index l.piece.origin)

use Rattle.std.proofs.Common.{ℕ, ℤ, ◌<◌, ◌^◌, get_or}
use Rattle.ch_affine.specs.Affine.{IsAtMost}
use Rattle.ch_recipes.proofs.recipes.are_small.Given as goal

abbrev pub invariant-loop-value : goal.invariant-loop-value
invariant-loop-value l = (k : ℕ) (d : ℤ) → k < l.value-index → IsAtMost (2 ^ 20) (get_or l.values k d)

use Rattle.std.proofs.Common.{◌≡◌, take}
use Rattle.ch_affine.specs.Affine.{form}
use Rattle.ch_permute.specs.Lowered.{minus_forms}
use Rattle.ch_permute.proofs.forms.minus_forms.Given as goal

abbrev pub invariant-loop-k : goal.invariant-loop-k
invariant-loop-k l = l.forms ≡ take l.k (minus_forms (form l.amounts l.amount) l.level l.levels)

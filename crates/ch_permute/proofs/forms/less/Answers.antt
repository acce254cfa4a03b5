use Rattle.std.proofs.Common.{ap, ◌∙◌, ◌++◌, ◌-ℤ◌, pos, map, neg_ℤ, SFits, w64, arith}
use Rattle.std.proofs.lemmas.Int.{ints, to_z-of_z}
use Rattle.ch_affine.specs.Affine.{form}
use Rattle.ch_permute.proofs.Steps.{less_is_small, negated_number}
use Rattle.ch_permute.proofs.forms.less.Goals as goal

pub invariant_of-result : goal.invariant_of-result
invariant_of-result c =
    let f : SFits w64 c.args.amount = c.ranges.amount in
    let near = c.requires.amount in
    let g : SFits w64 (pos 0 -ℤ c.args.amount) = omega (arith, ints, near) in
    less_is_small (form c.args.amounts.now c.args.amount) c.args.gap c.args.after c.push_negatives.new.numbers c.push_unit.new.numbers _ c.requires.few c.requires.amounts c.requires.amount
    (c.in_ok-push_negatives.ensures ∙ ap (λ t. t ++ map neg_ℤ c.args.amounts.now) c.new-coefs.ensures) c.in_ok-push_unit.ensures (simp to_z-of_z (negated_number c.args.amount))

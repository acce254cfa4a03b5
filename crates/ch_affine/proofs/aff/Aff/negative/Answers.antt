use Rattle.std.proofs.Common.{rules, arith, ◌∙◌, ap, pos, ◌-ℤ◌, SFits, w64}
use Rattle.std.proofs.lemmas.Int.{ints, to_z-of_z}
use Rattle.ch_affine.specs.Negatives.{negatives}
use Rattle.ch_affine.proofs.Negated.{negated_number, negative_small}
use Rattle.ch_affine.proofs.aff.Aff.negative.Goals as goal

pub invariant_of-result : goal.invariant_of-result
invariant_of-result c =
    let constant = c.self.invariant.constant in
    let f : SFits w64 c.self.inside.constant = search rules in
    let g : SFits w64 (pos 0 -ℤ c.self.inside.constant) = omega (arith, ints, constant) in
    negative_small (record { coefs = c.self.inside.coefs; constant = c.self.inside.constant }) c.args.self.now c.in_ok-coefs.coefs _ c.self.invariant c.self.view_is
    (c.in_ok-coefs.ensures ∙ ap negatives (c.as_slice.ensures ∙ ap (λ f. f.coefs) c.self.view_is)) (simp to_z-of_z (negated_number c.self.inside.constant))

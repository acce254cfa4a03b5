use Rattle.std.proofs.Common.{◌∙◌, ap, refl, rules, subst, take, SFits, w64}
use Rattle.std.proofs.lemmas.Int.{to_z-of_z}
use Rattle.ch_affine.specs.Affine.{IsSmall, dot}
use Rattle.ch_affine.specs.Form.{Form}
use Rattle.ch_plan.specs.declared.plan.Residue.{Residue}
use Rattle.ch_plan.specs.Ready.{iters_at}
use Rattle.ch_plan.proofs.Spots.{residue_is}
use Rattle.ch_plan.proofs.accesses.residue_of.Goals as goal

pub returns : goal.returns
returns c =
    let k : SFits w64 c.form.inside.constant = search rules in
    let f : SFits w64 c.args.stride = c.ranges.stride in
    let r : Residue = record { weights = c.in_ok-weights.weights; constant = c.form.inside.constant; modulus = c.args.sub.now.modulus; stride = c.args.stride } in
    simp to_z-of_z (residue_is c.args.site.now.origin.now c.args.site.now.around c.args.sub.now c.args.stride r (subst IsSmall c.form.view_is c.form.invariant) c.requires.modulus refl refl
    (ap (λ (g : Form). g.constant) c.form.view_is)
    (λ point p.
    c.in_ok-weights.ensures point p
    ∙ ap (λ cs. dot cs (iters_at c.args.site.now.origin.now (take c.args.site.now.around point))) (c.as_slice.ensures ∙ ap (λ (g : Form). g.coefs) c.form.view_is)))

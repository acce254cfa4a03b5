use Rattle.std.proofs.Common.{ap, sym, subst, ◌≤◌, ◌∙◌, ◌-◌, ◌++◌, length, rules, SFits, w64}
use Rattle.std.proofs.lemmas.Int.{to_z-of_z}
use Rattle.ch_affine.specs.Affine.{form}
use Rattle.ch_affine.specs.Form.{Form}
use Rattle.ch_space.specs.Built.{zeros}
use Rattle.ch_cut.proofs.CutForms.{wider_small}
use Rattle.ch_cut.proofs.forms.over_levels.Goals as goal

pub invariant_of-result : goal.invariant_of-result
invariant_of-result c =
    let f = form c.form.inside.coefs c.form.inside.constant in
    let s : SFits w64 c.form.inside.constant = search rules in
    let e = c.in_ok-push_zeros.ensures ∙ ap (λ n. c.in_ok-coefs.coefs ++ zeros (c.args.levels - n)) c.len.ensures in
    let m = c.in_ok-coefs.ensures ∙ c.as_slice.ensures in
    simp to_z-of_z (wider_small f c.push_zeros.new.numbers c.args.levels c.form.invariant (subst (λ (f : Form). length f.coefs ≤ c.args.levels) (sym c.form.view_is) c.requires.short) c.requires.few (e ∙ ap (λ z. z ++ zeros (c.args.levels - length f.coefs)) m))

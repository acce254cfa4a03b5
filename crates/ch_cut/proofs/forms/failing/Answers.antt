use Rattle.std.proofs.Common.{◌≡◌, ◌≤◌, ap, sym, subst, ◌∙◌, length, map, neg_ℤ, pos, ◌-ℤ◌, rules, SFits, w64, arith}
use Rattle.std.proofs.lemmas.Int.{ints, to_z-of_z}
use Rattle.std.proofs.lemmas.List.{take_all}
use Rattle.ch_affine.specs.Affine.{form}
use Rattle.ch_cut.specs.Forms.{IsModest}
use Rattle.ch_cut.proofs.CutForms.{failing_small}
use Rattle.ch_cut.proofs.forms.failing.Goals as goal

pub invariant_of-result : goal.invariant_of-result
invariant_of-result c =
    let f = form c.form.inside.coefs c.form.inside.constant in
    let k = c.requires.constant in
    let s : SFits w64 c.form.inside.constant = search rules in
    let near = c.form.invariant.constant in
    let g : SFits w64 (pos 0 -ℤ c.form.inside.constant) = omega (arith, ints, near) in
    let h : SFits w64 ((pos 0 -ℤ c.form.inside.constant) -ℤ pos 1) = omega (arith, ints, near) in
    let l : length c.form.inside.coefs ≤ c.loop-coef.coef-index = let e = ap length c.as_slice-coef-items.ensures in let t = c.loop-coef-test.false in omega arith in
    let n : (pos 0 -ℤ c.form.inside.constant) -ℤ pos 1 ≡ neg_ℤ c.form.inside.constant -ℤ pos 1 = omega (arith, ints) in
    simp to_z-of_z (failing_small f c.loop-coef.coefs ((pos 0 -ℤ c.form.inside.constant) -ℤ pos 1) c.form.invariant (subst IsModest (sym c.form.view_is) c.requires) (c.loop-coef.invariant ∙ ap (map neg_ℤ) (take_all c.loop-coef.coef-index c.form.inside.coefs l)) n)

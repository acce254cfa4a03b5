use Rattle.std.proofs.Common.{rules, sym, ap, ◌∙◌, subst, ◌+ℤ◌, SFits, w64}
use Rattle.std.specs.Int.{w128}
use Rattle.std.proofs.lemmas.Int.{to_z-of_z}
use Rattle.ch_affine.specs.Corners.{IsGreatestIn, greatest_in, greatest_sum}
use Rattle.ch_affine.proofs.Corners.{is_greatest}
use Rattle.ch_affine.proofs.extremes.greatest_in.Goals as goal

pub returns-clause-greatest : goal.returns-clause-greatest
returns-clause-greatest c =
    let r : SFits w128 c.greatest_total.result = search rules in
    let k : SFits w64 c.form.inside.constant = search rules in
    let sum = simp to_z-of_z at c.greatest_total.ensures.value in
    let is = sum ∙ ap (λ cs. c.form.inside.constant +ℤ greatest_sum cs c.args.boxes.now) c.as_slice.ensures ∙ ap (greatest_in c.args.boxes.now) c.form.view_is in
    simp to_z-of_z (subst (IsGreatestIn c.args.boxes.now c.args.form.now) (sym is) (is_greatest c.args.boxes.now c.args.form.now c.requires.same c.requires.boxes))

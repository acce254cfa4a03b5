use Rattle.std.proofs.Common.{rules, sym, ap, ◌∙◌, subst, ◌+ℤ◌, SFits, w64}
use Rattle.std.specs.Int.{w128}
use Rattle.std.proofs.lemmas.Int.{to_z-of_z}
use Rattle.ch_affine.specs.Corners.{IsLeastIn, least_in, least_sum}
use Rattle.ch_affine.proofs.Corners.{is_least}
use Rattle.ch_affine.proofs.extremes.least_in.Goals as goal

pub returns-clause-least : goal.returns-clause-least
returns-clause-least c =
    let r : SFits w128 c.least_total.result = search rules in
    let k : SFits w64 c.form.inside.constant = search rules in
    let sum = simp to_z-of_z at c.least_total.ensures.value in
    let is = sum ∙ ap (λ cs. c.form.inside.constant +ℤ least_sum cs c.args.boxes.now) c.as_slice.ensures ∙ ap (least_in c.args.boxes.now) c.form.view_is in
    simp to_z-of_z (subst (IsLeastIn c.args.boxes.now c.args.form.now) (sym is) (is_least c.args.boxes.now c.args.form.now c.requires.same c.requires.boxes))

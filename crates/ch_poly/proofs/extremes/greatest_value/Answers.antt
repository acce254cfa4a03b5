use Rattle.std.proofs.Common.{ap, refl, ◌∙◌}
use Rattle.ch_affine.specs.Rows.{Rows, IsSystem}
use Rattle.ch_poly.specs.Opposed.{IsNever}
use Rattle.ch_poly.proofs.Extreme.{no_greatest, greatest_answer}
use Rattle.ch_poly.proofs.Firsts.{boxes_boxed}
use Rattle.ch_poly.proofs.extremes.greatest_value.Goals as goal

pub returns-then-any_opposed : goal.returns-then-any_opposed
returns-then-any_opposed c =
    let rows = c.as_slice-rows.ensures ∙ ap (λ (r : Rows). r.rows) c.s.view_is in
    let n : IsNever c.args.s.now.rows = rw rows at (c.if-any_opposed.ensures refl) in
    no_greatest c.args.s.now c.args.form.now (record { none = λ p w h. n.never p h })

pub greatest_in-requires-clause-boxed : goal.greatest_in-requires-clause-boxed
greatest_in-requires-clause-boxed c =
    let boxes = c.as_slice-boxes.ensures ∙ ap (λ (r : Rows). r.boxes) c.s.view_is in
    let i : IsSystem c.args.s.now = rw c.s.view_is at c.s.invariant in
    rw boxes (boxes_boxed c.args.s.now i)

pub returns : goal.returns
returns c =
    let boxes = c.as_slice-boxes.ensures ∙ ap (λ (r : Rows). r.boxes) c.s.view_is in
    let rows = c.as_slice-rows.ensures ∙ ap (λ (r : Rows). r.rows) c.s.view_is in
    greatest_answer c.args.s.now c.args.form.now c.greatest_in.result (rw (rows, boxes) at c.greatest_in.ensures)

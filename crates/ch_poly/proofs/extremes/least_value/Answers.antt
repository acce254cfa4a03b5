use Rattle.std.proofs.Common.{ℤ, Some, ap, refl, ◌∙◌, rules, SFits}
use Rattle.std.specs.Int.{w128}
use Rattle.std.proofs.lemmas.Int.{to_z-of_z}
use Rattle.ch_affine.specs.Affine.{IsSmall}
use Rattle.ch_affine.specs.Rows.{Rows, IsSystem}
use Rattle.ch_poly.specs.Opposed.{IsNever}
use Rattle.ch_poly.proofs.Extreme.{no_least, least_answer, value_bound}
use Rattle.ch_poly.proofs.Firsts.{boxes_boxed}
use Rattle.ch_poly.proofs.extremes.least_value.Goals as goal

pub returns-then-any_opposed : goal.returns-then-any_opposed
returns-then-any_opposed c =
    let rows = c.as_slice-rows.ensures ∙ ap (λ (r : Rows). r.rows) c.s.view_is in
    let n : IsNever c.args.s.now.rows = rw rows at (c.if-any_opposed.ensures refl) in
    no_least c.args.s.now c.args.form.now (record { none = λ p w h. n.never p h })

pub greatest_in-requires-clause-boxed : goal.greatest_in-requires-clause-boxed
greatest_in-requires-clause-boxed c =
    let boxes = c.as_slice-boxes.ensures ∙ ap (λ (r : Rows). r.boxes) c.s.view_is in
    let i : IsSystem c.args.s.now = rw c.s.view_is at c.s.invariant in
    rw boxes (boxes_boxed c.args.s.now i)

pub returns-in-None : goal.returns-in-None
returns-in-None c =
    let boxes = c.as_slice-boxes.ensures ∙ ap (λ (r : Rows). r.boxes) c.s.view_is in
    let rows = c.as_slice-rows.ensures ∙ ap (λ (r : Rows). r.rows) c.s.view_is in
    no_least c.args.s.now c.args.form.now (rw (rows, boxes) at c.in-None.ensures)

pub opposite-requires : goal.opposite-requires
opposite-requires c =
    let boxes = c.as_slice-boxes.ensures ∙ ap (λ (r : Rows). r.boxes) c.s.view_is in
    let i : IsSystem c.args.s.now = rw c.s.view_is at c.s.invariant in
    let v : SFits w128 c.in-Some.value = search rules in
    let g = rw boxes at c.in-Some.ensures in
    let small : IsSmall c.in_ok-turned.turned = search rules in
    simp to_z-of_z (value_bound _ _ _ _ _ small (boxes_boxed c.args.s.now i) g.has)

pub returns : goal.returns
returns c =
    let boxes = c.as_slice-boxes.ensures ∙ ap (λ (r : Rows). r.boxes) c.s.view_is in
    let rows = c.as_slice-rows.ensures ∙ ap (λ (r : Rows). r.rows) c.s.view_is in
    let v : SFits w128 c.in-Some.value = search rules in
    let o : SFits w128 c.opposite.result = search rules in
    let g = rw (rows, boxes, c.in_ok-turned.ensures) at c.in-Some.ensures in
    let turned = simp to_z-of_z at c.opposite.ensures in
    simp to_z-of_z (ap (λ (z : ℤ). Some z) turned ∙ least_answer c.args.s.now c.args.form.now c.in-Some.value g)

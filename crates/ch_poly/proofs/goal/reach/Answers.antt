use Rattle.std.proofs.Common.{◌≤ℤ◌, SFits, subst, arith, rules}
use Rattle.std.specs.Int.{w128}
use Rattle.std.proofs.lemmas.Int.{ints, to_z-of_z}
use Rattle.std.proofs.lemmas.List.Elements.{All-more}
use Rattle.ch_affine.specs.Form.{Form}
use Rattle.ch_affine.specs.Affine.{value}
use Rattle.ch_poly.proofs.goal.reach.Goals as goal

pub loop-row-preserved : goal.loop-row-preserved
loop-row-preserved c =
    let b : SFits w128 c.args.bound = c.ranges.bound in
    let f : SFits w128 c.value.result = search rules in
    let v : c.args.bound ≤ℤ value c.row-item.result c.args.point.now = omega (arith, ints, c.value.ensures) in
    let P : Form → Type 0 = λ g. c.args.bound ≤ℤ value g c.args.point.now in
    let each = (simp to_z-of_z at c.loop-row.invariant).each in
    simp to_z-of_z (record { each = All-more P c.args.rows.now c.loop-row.row-index c.row-item.result c.loop-row-test.true each (subst P c.row-item.is v) })

use Rattle.std.proofs.Common.{◌≡◌, ◌+◌, ◌-◌, ◌<◌, ap, ◌∙◌, length, map, take, arith}
use Rattle.std.specs.List.{All}
use Rattle.std.proofs.lemmas.Result.{IfOk-weaker}
use Rattle.ch_affine.specs.Affine.{value}
use Rattle.ch_affine.specs.Form.{Form}
use Rattle.ch_affine.specs.Rows.{IsBox, system}
use Rattle.ch_datacopy.specs.Pairs.{IsWidest, all_shared, pair_boxes}
use Rattle.ch_datacopy.specs.Widths.{HaveNone}
use Rattle.ch_datacopy.proofs.Pairing.{boxes_many, none_widest, pair_is_system, widest_is}
use Rattle.ch_datacopy.proofs.SmallRows.{difference_long}
use Rattle.ch_moved.proofs.Fitted.{none_value, some_value}
use Rattle.ch_poly.specs.Points.{greatest_of, points}
use Rattle.ch_datacopy.proofs.widths.widest.Goals as goal

pub returns-in_default : goal.returns-in_default
returns-in_default c =
    none_widest c.args.around c.args.cells c.args.k c.args.first.now c.args.second.now c.requires.first c.requires.second
    (none_value c.in_ok-boxes.field-0 (HaveNone (all_shared (take c.args.around c.args.first.now.system.boxes) (take c.args.around c.args.second.now.system.boxes)))
    (λ boxes. (boxes ≡ pair_boxes c.args.around c.args.cells c.args.first.now c.args.second.now) × All IsBox boxes) c.in_ok-boxes.ensures c.in_default.is)

pub overflow_cast-system : goal.overflow_cast-system
overflow_cast-system c =
    let b = some_value c.in_ok-boxes.field-0 (HaveNone (all_shared (take c.args.around c.args.first.now.system.boxes) (take c.args.around c.args.second.now.system.boxes)))
    (λ boxes. (boxes ≡ pair_boxes c.args.around c.args.cells c.args.first.now c.args.second.now) × All IsBox boxes) c.in-Some.boxes c.in_ok-boxes.ensures c.in-Some.is in
    let m = ap length b.0 ∙ boxes_many c.args.around c.args.cells c.args.first.now c.args.second.now c.requires.first c.requires.second in
    let n = c.len.ensures in
    let l = c.requires.first.levels in
    let f = c.requires.first_room in
    let s = c.requires.second_room in
    omega (arith, m, n, l, f, s)

pub invariant_of-system : goal.invariant_of-system
invariant_of-system c =
    let b = some_value c.in_ok-boxes.field-0 (HaveNone (all_shared (take c.args.around c.args.first.now.system.boxes) (take c.args.around c.args.second.now.system.boxes)))
    (λ boxes. (boxes ≡ pair_boxes c.args.around c.args.cells c.args.first.now c.args.second.now) × All IsBox boxes) c.in-Some.boxes c.in_ok-boxes.ensures c.in-Some.is in
    pair_is_system c.args.around c.args.cells c.args.first.now c.args.second.now c.requires.first c.requires.second _ c.in_ok-rows.rows c.in-Some.boxes c.requires.first_room c.requires.second_room
    c.len.ensures c.in_ok-rows.ensures b.0 b.1

pub greatest_value-requires : goal.greatest_value-requires
greatest_value-requires c =
    let b = some_value c.in_ok-boxes.field-0 (HaveNone (all_shared (take c.args.around c.args.first.now.system.boxes) (take c.args.around c.args.second.now.system.boxes)))
    (λ boxes. (boxes ≡ pair_boxes c.args.around c.args.cells c.args.first.now c.args.second.now) × All IsBox boxes) c.in-Some.boxes c.in_ok-boxes.ensures c.in-Some.is in
    let m = ap length b.0 ∙ boxes_many c.args.around c.args.cells c.args.first.now c.args.second.now c.requires.first c.requires.second in
    let k : c.args.k < c.args.cells = c.requires.k in
    let l = ap (λ (g : Form). length g.coefs) c.in_ok-form.ensures ∙ difference_long c.args.around c.args.k ((c.args.cells - 1) - c.args.k) (c.args.first.now.hidden + c.args.second.now.hidden) in
    let n = c.len.ensures in
    omega (arith, m, k, l, n)

pub returns : goal.returns
returns c =
    let b = some_value c.in_ok-boxes.field-0 (HaveNone (all_shared (take c.args.around c.args.first.now.system.boxes) (take c.args.around c.args.second.now.system.boxes)))
    (λ boxes. (boxes ≡ pair_boxes c.args.around c.args.cells c.args.first.now c.args.second.now) × All IsBox boxes) c.in-Some.boxes c.in_ok-boxes.ensures c.in-Some.is in
    IfOk-weaker c.greatest_value.result (λ v. v ≡ greatest_of (map (value c.in_ok-form.form) (points (system 0 c.in_ok-rows.rows c.in-Some.boxes))))
    (IsWidest c.args.around c.args.cells c.args.k c.args.first.now c.args.second.now)
    (λ v e. widest_is c.args.around c.args.cells c.args.k c.args.first.now c.args.second.now v 0 c.in_ok-rows.rows c.in-Some.boxes c.in_ok-form.form c.requires.k c.requires.first c.requires.second
    c.in_ok-rows.ensures b.0 c.in_ok-form.ensures e)
    c.greatest_value.ensures

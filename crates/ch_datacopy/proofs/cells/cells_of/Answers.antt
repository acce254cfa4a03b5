use Rattle.std.proofs.Common.{◌≡◌, ◌+◌, ◌-◌, ◌^◌, refl, sym, ap, ap₂, ◌∙◌, subst, length, take, arith}
use Rattle.std.specs.List.{All}
use Rattle.ch_affine.specs.Form.{Form}
use Rattle.ch_affine.specs.Rows.{IsBox, IsSystem}
use Rattle.ch_datacopy.specs.Cells.{use_boxes}
use Rattle.ch_datacopy.specs.Ranges.{AreRangesOf, HasSmall}
use Rattle.ch_datacopy.proofs.Celled.{boxes_many, forms_small, iters_boxes, iters_many, level_boxes, levels_long, made_cells, made_system, origin_small, ranges_same}
use Rattle.ch_space.specs.declared.piece.Piece.{Piece}
use Rattle.ch_datacopy.proofs.cells.cells_of.Goals as goal

pub ranges_of-requires-clause-same : goal.ranges_of-requires-clause-same
ranges_of-requires-clause-same c =
    let sys = subst (λ (q : Piece). IsSystem q.system) c.piece.view_is c.piece.invariant in
    let front = ap₂ take (ap (λ (q : Piece). q.levels) c.piece.view_is) (c.as_slice-boxes.ensures ∙ ap (λ (q : Piece). q.system.boxes) c.piece.view_is) in
    let origin = c.as_slice.ensures ∙ ap (λ (q : Piece). q.origin) c.piece.view_is in
    subst (λ n. All (λ (f : Form). length f.coefs ≡ n) c.as_slice.result.now) (sym (ap length front ∙ levels_long c.args.piece.now c.args.around c.args.forms.now sys c.requires.whole c.requires.around c.requires.few c.requires.iterators c.requires.dimensions c.requires.long c.requires.near))
    (subst (All (λ (f : Form). length f.coefs ≡ c.args.piece.now.levels)) (sym origin) c.requires.whole.origin)

pub ranges_of-requires-clause-boxes : goal.ranges_of-requires-clause-boxes
ranges_of-requires-clause-boxes c =
    let sys = subst (λ (q : Piece). IsSystem q.system) c.piece.view_is c.piece.invariant in
    let front = ap₂ take (ap (λ (q : Piece). q.levels) c.piece.view_is) (c.as_slice-boxes.ensures ∙ ap (λ (q : Piece). q.system.boxes) c.piece.view_is) in
    subst (All IsBox) (sym front) (level_boxes c.args.piece.now c.args.around c.args.forms.now sys c.requires.whole c.requires.around c.requires.few c.requires.iterators c.requires.dimensions c.requires.long c.requires.near)

pub ranges_of-requires-clause-some : goal.ranges_of-requires-clause-some
ranges_of-requires-clause-some c =
    let sys = subst (λ (q : Piece). IsSystem q.system) c.piece.view_is c.piece.invariant in
    let front = ap₂ take (ap (λ (q : Piece). q.levels) c.piece.view_is) (c.as_slice-boxes.ensures ∙ ap (λ (q : Piece). q.system.boxes) c.piece.view_is) in
    let origin = c.as_slice.ensures ∙ ap (λ (q : Piece). q.origin) c.piece.view_is in
    subst (λ b. All (HasSmall (2 ^ 54) b) c.as_slice.result.now) (sym front)
    (subst (All (HasSmall (2 ^ 54) (take c.args.piece.now.levels c.args.piece.now.system.boxes))) (sym origin) (origin_small c.args.piece.now c.args.around c.args.forms.now sys c.requires.whole c.requires.around c.requires.few c.requires.iterators c.requires.dimensions c.requires.long c.requires.near))

pub ranges_of-requires-2-clause-same : goal.ranges_of-requires-2-clause-same
ranges_of-requires-2-clause-same c =
    let sys = subst (λ (q : Piece). IsSystem q.system) c.piece.view_is c.piece.invariant in
    let front = ap₂ take (ap (λ (q : Piece). q.levels) c.piece.view_is) (c.as_slice-boxes.ensures ∙ ap (λ (q : Piece). q.system.boxes) c.piece.view_is) in
    let origin = c.as_slice.ensures ∙ ap (λ (q : Piece). q.origin) c.piece.view_is in
    let are_iters = ranges_same (2 ^ 54) _ _ _ _ c.in_ok-iters.iters front origin c.in_ok-iters.ensures in
    subst (λ n. All (λ (f : Form). length f.coefs ≡ n) c.args.forms.now) (sym (ap length c.as_slice-2.ensures ∙ iters_many c.args.piece.now c.args.around c.args.forms.now sys c.requires.whole c.requires.around c.requires.few c.requires.iterators c.requires.dimensions c.requires.long c.requires.near c.in_ok-iters.iters are_iters)) c.requires.long

pub ranges_of-requires-2-clause-boxes : goal.ranges_of-requires-2-clause-boxes
ranges_of-requires-2-clause-boxes c =
    let sys = subst (λ (q : Piece). IsSystem q.system) c.piece.view_is c.piece.invariant in
    let front = ap₂ take (ap (λ (q : Piece). q.levels) c.piece.view_is) (c.as_slice-boxes.ensures ∙ ap (λ (q : Piece). q.system.boxes) c.piece.view_is) in
    let origin = c.as_slice.ensures ∙ ap (λ (q : Piece). q.origin) c.piece.view_is in
    let are_iters = ranges_same (2 ^ 54) _ _ _ _ c.in_ok-iters.iters front origin c.in_ok-iters.ensures in
    subst (All IsBox) (sym c.as_slice-2.ensures) (iters_boxes c.args.piece.now c.args.around c.args.forms.now sys c.requires.whole c.requires.around c.requires.few c.requires.iterators c.requires.dimensions c.requires.long c.requires.near c.in_ok-iters.iters are_iters)

pub ranges_of-requires-2-clause-some : goal.ranges_of-requires-2-clause-some
ranges_of-requires-2-clause-some c =
    let sys = subst (λ (q : Piece). IsSystem q.system) c.piece.view_is c.piece.invariant in
    let front = ap₂ take (ap (λ (q : Piece). q.levels) c.piece.view_is) (c.as_slice-boxes.ensures ∙ ap (λ (q : Piece). q.system.boxes) c.piece.view_is) in
    let origin = c.as_slice.ensures ∙ ap (λ (q : Piece). q.origin) c.piece.view_is in
    let are_iters = ranges_same (2 ^ 54) _ _ _ _ c.in_ok-iters.iters front origin c.in_ok-iters.ensures in
    subst (λ b. All (HasSmall (2 ^ 18) b) c.args.forms.now) (sym c.as_slice-2.ensures) (forms_small c.args.piece.now c.args.around c.args.forms.now sys c.requires.whole c.requires.around c.requires.few c.requires.iterators c.requires.dimensions c.requires.long c.requires.near c.in_ok-iters.iters are_iters)

pub use_boxes-requires : goal.use_boxes-requires
use_boxes-requires c =
    let w = c.requires.whole.boxes in
    let d = c.requires.around in
    omega (arith, w, d)

pub use_rows-requires-clause-fit : goal.use_rows-requires-clause-fit
use_rows-requires-clause-fit c =
    let d = c.requires.around in
    let f = c.requires.few in
    let i = c.requires.iterators in
    let m = c.requires.dimensions in
    let e = ap (λ (q : Piece). length q.origin) c.piece.view_is in
    let g = ap (λ (q : Piece). (q.levels + q.hidden) - c.args.around) c.piece.view_is in
    record {
      around = d;
      cells = refl;
      inner = g;
      iters = omega (arith, e);
      room = omega (arith, d, f, i, m, e, g);
      long = c.requires.long;
    }

pub overflow_cast-result-3 : goal.overflow_cast-result-3
overflow_cast-result-3 c =
    let sys = subst (λ (q : Piece). IsSystem q.system) c.piece.view_is c.piece.invariant in
    let front = ap₂ take (ap (λ (q : Piece). q.levels) c.piece.view_is) (c.as_slice-boxes.ensures ∙ ap (λ (q : Piece). q.system.boxes) c.piece.view_is) in
    let origin = c.as_slice.ensures ∙ ap (λ (q : Piece). q.origin) c.piece.view_is in
    let are_iters = ranges_same (2 ^ 54) _ _ _ _ c.in_ok-iters.iters front origin c.in_ok-iters.ensures in
    let are_cells = subst (λ b. AreRangesOf (2 ^ 18) b c.args.forms.now c.in_ok-cells.cells) c.as_slice-2.ensures c.in_ok-cells.ensures in
    let boxes = c.in_ok-boxes.ensures ∙ ap₂ (λ x y. use_boxes c.args.piece.now c.args.around x y) c.as_slice-3.ensures c.as_slice-4.ensures in
    let many = boxes_many c.args.piece.now c.args.around c.args.forms.now sys c.requires.whole c.requires.around c.requires.few c.requires.iterators c.requires.dimensions c.requires.long c.requires.near c.in_ok-iters.iters are_iters c.in_ok-cells.cells are_cells in
    let long = c.len-2.ensures in
    let same = ap length boxes in
    let few = c.requires.few in
    let deep = c.requires.around in
    let iterators = c.requires.iterators in
    let dimensions = c.requires.dimensions in
    omega (arith, many, long, same, few, deep, iterators, dimensions)

pub invariant_of-result : goal.invariant_of-result
invariant_of-result c =
    let sys = subst (λ (q : Piece). IsSystem q.system) c.piece.view_is c.piece.invariant in
    let front = ap₂ take (ap (λ (q : Piece). q.levels) c.piece.view_is) (c.as_slice-boxes.ensures ∙ ap (λ (q : Piece). q.system.boxes) c.piece.view_is) in
    let origin = c.as_slice.ensures ∙ ap (λ (q : Piece). q.origin) c.piece.view_is in
    let are_iters = ranges_same (2 ^ 54) _ _ _ _ c.in_ok-iters.iters front origin c.in_ok-iters.ensures in
    let are_cells = subst (λ b. AreRangesOf (2 ^ 18) b c.args.forms.now c.in_ok-cells.cells) c.as_slice-2.ensures c.in_ok-cells.ensures in
    let boxes = c.in_ok-boxes.ensures ∙ ap₂ (λ x y. use_boxes c.args.piece.now c.args.around x y) c.as_slice-3.ensures c.as_slice-4.ensures in
    made_system c.args.piece.now c.args.around c.args.forms.now sys c.requires.whole c.requires.around c.requires.few c.requires.iterators c.requires.dimensions c.requires.long c.requires.near c.in_ok-iters.iters are_iters c.in_ok-cells.cells are_cells _ c.in_ok-rows.rows c.in_ok-boxes.boxes c.len-2.ensures c.in_ok-rows.ensures boxes

pub returns : goal.returns
returns c =
    let sys = subst (λ (q : Piece). IsSystem q.system) c.piece.view_is c.piece.invariant in
    let front = ap₂ take (ap (λ (q : Piece). q.levels) c.piece.view_is) (c.as_slice-boxes.ensures ∙ ap (λ (q : Piece). q.system.boxes) c.piece.view_is) in
    let origin = c.as_slice.ensures ∙ ap (λ (q : Piece). q.origin) c.piece.view_is in
    let are_iters = ranges_same (2 ^ 54) _ _ _ _ c.in_ok-iters.iters front origin c.in_ok-iters.ensures in
    let are_cells = subst (λ b. AreRangesOf (2 ^ 18) b c.args.forms.now c.in_ok-cells.cells) c.as_slice-2.ensures c.in_ok-cells.ensures in
    let boxes = c.in_ok-boxes.ensures ∙ ap₂ (λ x y. use_boxes c.args.piece.now c.args.around x y) c.as_slice-3.ensures c.as_slice-4.ensures in
    let e = ap (λ (q : Piece). length q.origin) c.piece.view_is in
    let g = ap (λ (q : Piece). (q.levels + q.hidden) - c.args.around) c.piece.view_is in
    made_cells c.args.piece.now c.args.around c.args.forms.now sys c.requires.whole c.requires.around c.requires.few c.requires.iterators c.requires.dimensions c.requires.long c.requires.near c.in_ok-iters.iters are_iters c.in_ok-cells.cells are_cells _ refl (omega (arith, e, g)) c.len-2.ensures c.in_ok-rows.ensures boxes

use Rattle.std.proofs.Common.{ap, ◌∙◌, subst}
use Rattle.std.specs.List.{All}
use Rattle.ch_affine.specs.Rows.{IsBox}
use Rattle.ch_permute.specs.Permuted.{picked}
use Rattle.ch_permute.proofs.BothChanges.{turned_is}
use Rattle.ch_space.specs.declared.piece.Piece.{Piece}
use Rattle.ch_permute.proofs.Changing.{changes, fits}
use Rattle.ch_permute.proofs.pieces.turned_piece.Goals as goal

pub with_levels-requires-clause-fit : goal.with_levels-requires-clause-fit
with_levels-requires-clause-fit c =
    let p = c.args.piece.now in
    let v = ap (λ (q : Piece). q.system.boxes) c.piece.view_is in
    let h =
    turned_is c.args.order.now p c.as_slice-2.result.now c.in_ok-boxes.boxes c.as_slice.result.now _ c.requires.whole c.requires.turns (c.as_slice.ensures ∙ v) (ap (λ (q : Piece). q.levels) c.piece.view_is) (c.as_slice-2.ensures ∙ c.in_ok-forms.ensures)
    c.in_ok-boxes.ensures in
    fits (picked c.args.order.now) 1 p c.as_slice-2.result.now c.in_ok-boxes.boxes h c.requires.whole c.requires.room (subst (All IsBox) v c.piece.invariant.each)

pub returns : goal.returns
returns c =
    let p = c.args.piece.now in
    let v = ap (λ (q : Piece). q.system.boxes) c.piece.view_is in
    let h =
    turned_is c.args.order.now p c.as_slice-2.result.now c.in_ok-boxes.boxes c.as_slice.result.now _ c.requires.whole c.requires.turns (c.as_slice.ensures ∙ v) (ap (λ (q : Piece). q.levels) c.piece.view_is) (c.as_slice-2.ensures ∙ c.in_ok-forms.ensures)
    c.in_ok-boxes.ensures in
    changes (picked c.args.order.now) 1 p c.as_slice-2.result.now c.in_ok-boxes.boxes c.with_levels.result h c.requires.whole c.with_levels.ensures

use Rattle.std.proofs.Common.{ap, ◌∙◌, subst, SFits, w64}
use Rattle.std.specs.List.{All}
use Rattle.std.proofs.lemmas.Int.{to_z-of_z}
use Rattle.ch_affine.specs.Affine.{form}
use Rattle.ch_affine.specs.Rows.{IsBox}
use Rattle.ch_permute.specs.Lowered.{plus}
use Rattle.ch_permute.specs.Raised.{growth}
use Rattle.ch_permute.proofs.BothChanges.{raised_is}
use Rattle.ch_space.specs.declared.piece.Piece.{Piece}
use Rattle.ch_permute.proofs.Changing.{changes, fits}
use Rattle.ch_permute.proofs.pieces.raised_piece.Goals as goal

pub with_levels-requires-clause-fit : goal.with_levels-requires-clause-fit
with_levels-requires-clause-fit c =
    let g : SFits w64 c.args.amount = c.ranges.amount in
    let p = c.args.piece.now in
    let v = ap (λ (q : Piece). q.system.boxes) c.piece.view_is in
    let e = simp to_z-of_z at c.in_ok-forms.ensures in
    let f = simp to_z-of_z at c.in_ok-boxes.ensures in
    let h =
    raised_is c.args.amounts.now c.args.amount c.args.level p c.as_slice-2.result.now c.in_ok-boxes.boxes c.as_slice.result.now _ c.requires.whole c.requires.level c.requires.before c.requires.near
    (c.as_slice.ensures ∙ v) (ap (λ (q : Piece). q.levels) c.piece.view_is) (c.as_slice-2.ensures ∙ e) f in
    fits (plus (form c.args.amounts.now c.args.amount) c.args.level) (growth c.args.amounts.now) p c.as_slice-2.result.now c.in_ok-boxes.boxes h c.requires.whole c.requires.room
    (subst (All IsBox) v c.piece.invariant.each)

pub returns : goal.returns
returns c =
    let g : SFits w64 c.args.amount = c.ranges.amount in
    let p = c.args.piece.now in
    let v = ap (λ (q : Piece). q.system.boxes) c.piece.view_is in
    let e = simp to_z-of_z at c.in_ok-forms.ensures in
    let f = simp to_z-of_z at c.in_ok-boxes.ensures in
    let h =
    raised_is c.args.amounts.now c.args.amount c.args.level p c.as_slice-2.result.now c.in_ok-boxes.boxes c.as_slice.result.now _ c.requires.whole c.requires.level c.requires.before c.requires.near
    (c.as_slice.ensures ∙ v) (ap (λ (q : Piece). q.levels) c.piece.view_is) (c.as_slice-2.ensures ∙ e) f in
    changes (plus (form c.args.amounts.now c.args.amount) c.args.level) (growth c.args.amounts.now) p c.as_slice-2.result.now c.in_ok-boxes.boxes c.with_levels.result h c.requires.whole c.with_levels.ensures

use Rattle.std.proofs.Common.{ap, ap₂, subst, ◌∙◌, ◌-◌, ◌++◌, ◌∷◌, [], take, length}
use Rattle.std.specs.List.{All}
use Rattle.ch_affine.specs.Rows.{IsBox}
use Rattle.ch_cut.proofs.Doubling.{fits}
use Rattle.ch_moved.specs.Spread.{widened}
use Rattle.ch_space.specs.Built.{units}
use Rattle.ch_space.specs.declared.piece.Piece.{Piece}
use Rattle.ch_cut.proofs.halves.half.Goals as goal

pub reindexed-requires-clause-many : goal.reindexed-requires-clause-many
reindexed-requires-clause-many c =
    let p = c.args.piece.now in
    let levels = ap (λ (q : Piece). q.levels) c.piece.view_is in
    let forms = c.as_slice-3.ensures ∙ c.in_ok-forms.ensures ∙ ap (units 0) levels in
    let boxes = c.in_ok-boxes.ensures ∙ ap₂ take levels (c.as_slice.ensures ∙ ap (λ (q : Piece). q.system.boxes) c.piece.view_is) in
    let row = c.in_ok-over_levels.ensures ∙ ap (λ n. widened (n - length c.args.row.now.coefs) c.args.row.now) levels in
    let extra = c.as_slice-4.ensures ∙ c.in_ok-push.ensures.ok ∙ ap₂ (λ z f. z ++ f ∷ []) c.new-rows.ensures row in
    let each = subst (λ (q : Piece). All IsBox q.system.boxes) c.piece.view_is c.piece.invariant.each in
    let fit = fits p c.args.row.now c.as_slice-3.result.now c.as_slice-4.result.now c.in_ok-boxes.boxes c.requires.whole c.requires.room c.requires.short each forms extra boxes in
    fit.many

pub reindexed-requires-clause-long : goal.reindexed-requires-clause-long
reindexed-requires-clause-long c =
    let p = c.args.piece.now in
    let levels = ap (λ (q : Piece). q.levels) c.piece.view_is in
    let forms = c.as_slice-3.ensures ∙ c.in_ok-forms.ensures ∙ ap (units 0) levels in
    let boxes = c.in_ok-boxes.ensures ∙ ap₂ take levels (c.as_slice.ensures ∙ ap (λ (q : Piece). q.system.boxes) c.piece.view_is) in
    let row = c.in_ok-over_levels.ensures ∙ ap (λ n. widened (n - length c.args.row.now.coefs) c.args.row.now) levels in
    let extra = c.as_slice-4.ensures ∙ c.in_ok-push.ensures.ok ∙ ap₂ (λ z f. z ++ f ∷ []) c.new-rows.ensures row in
    let each = subst (λ (q : Piece). All IsBox q.system.boxes) c.piece.view_is c.piece.invariant.each in
    let fit = fits p c.args.row.now c.as_slice-3.result.now c.as_slice-4.result.now c.in_ok-boxes.boxes c.requires.whole c.requires.room c.requires.short each forms extra boxes in
    fit.long

pub reindexed-requires-clause-near : goal.reindexed-requires-clause-near
reindexed-requires-clause-near c =
    let p = c.args.piece.now in
    let levels = ap (λ (q : Piece). q.levels) c.piece.view_is in
    let forms = c.as_slice-3.ensures ∙ c.in_ok-forms.ensures ∙ ap (units 0) levels in
    let boxes = c.in_ok-boxes.ensures ∙ ap₂ take levels (c.as_slice.ensures ∙ ap (λ (q : Piece). q.system.boxes) c.piece.view_is) in
    let row = c.in_ok-over_levels.ensures ∙ ap (λ n. widened (n - length c.args.row.now.coefs) c.args.row.now) levels in
    let extra = c.as_slice-4.ensures ∙ c.in_ok-push.ensures.ok ∙ ap₂ (λ z f. z ++ f ∷ []) c.new-rows.ensures row in
    let each = subst (λ (q : Piece). All IsBox q.system.boxes) c.piece.view_is c.piece.invariant.each in
    let fit = fits p c.args.row.now c.as_slice-3.result.now c.as_slice-4.result.now c.in_ok-boxes.boxes c.requires.whole c.requires.room c.requires.short each forms extra boxes in
    fit.near

pub reindexed-requires-clause-extra_long : goal.reindexed-requires-clause-extra_long
reindexed-requires-clause-extra_long c =
    let p = c.args.piece.now in
    let levels = ap (λ (q : Piece). q.levels) c.piece.view_is in
    let forms = c.as_slice-3.ensures ∙ c.in_ok-forms.ensures ∙ ap (units 0) levels in
    let boxes = c.in_ok-boxes.ensures ∙ ap₂ take levels (c.as_slice.ensures ∙ ap (λ (q : Piece). q.system.boxes) c.piece.view_is) in
    let row = c.in_ok-over_levels.ensures ∙ ap (λ n. widened (n - length c.args.row.now.coefs) c.args.row.now) levels in
    let extra = c.as_slice-4.ensures ∙ c.in_ok-push.ensures.ok ∙ ap₂ (λ z f. z ++ f ∷ []) c.new-rows.ensures row in
    let each = subst (λ (q : Piece). All IsBox q.system.boxes) c.piece.view_is c.piece.invariant.each in
    let fit = fits p c.args.row.now c.as_slice-3.result.now c.as_slice-4.result.now c.in_ok-boxes.boxes c.requires.whole c.requires.room c.requires.short each forms extra boxes in
    fit.extra_long

pub reindexed-requires-clause-ranges : goal.reindexed-requires-clause-ranges
reindexed-requires-clause-ranges c =
    let p = c.args.piece.now in
    let levels = ap (λ (q : Piece). q.levels) c.piece.view_is in
    let forms = c.as_slice-3.ensures ∙ c.in_ok-forms.ensures ∙ ap (units 0) levels in
    let boxes = c.in_ok-boxes.ensures ∙ ap₂ take levels (c.as_slice.ensures ∙ ap (λ (q : Piece). q.system.boxes) c.piece.view_is) in
    let row = c.in_ok-over_levels.ensures ∙ ap (λ n. widened (n - length c.args.row.now.coefs) c.args.row.now) levels in
    let extra = c.as_slice-4.ensures ∙ c.in_ok-push.ensures.ok ∙ ap₂ (λ z f. z ++ f ∷ []) c.new-rows.ensures row in
    let each = subst (λ (q : Piece). All IsBox q.system.boxes) c.piece.view_is c.piece.invariant.each in
    let fit = fits p c.args.row.now c.as_slice-3.result.now c.as_slice-4.result.now c.in_ok-boxes.boxes c.requires.whole c.requires.room c.requires.short each forms extra boxes in
    fit.ranges

pub reindexed-requires-clause-origin : goal.reindexed-requires-clause-origin
reindexed-requires-clause-origin c =
    let p = c.args.piece.now in
    let levels = ap (λ (q : Piece). q.levels) c.piece.view_is in
    let forms = c.as_slice-3.ensures ∙ c.in_ok-forms.ensures ∙ ap (units 0) levels in
    let boxes = c.in_ok-boxes.ensures ∙ ap₂ take levels (c.as_slice.ensures ∙ ap (λ (q : Piece). q.system.boxes) c.piece.view_is) in
    let row = c.in_ok-over_levels.ensures ∙ ap (λ n. widened (n - length c.args.row.now.coefs) c.args.row.now) levels in
    let extra = c.as_slice-4.ensures ∙ c.in_ok-push.ensures.ok ∙ ap₂ (λ z f. z ++ f ∷ []) c.new-rows.ensures row in
    let each = subst (λ (q : Piece). All IsBox q.system.boxes) c.piece.view_is c.piece.invariant.each in
    let fit = fits p c.args.row.now c.as_slice-3.result.now c.as_slice-4.result.now c.in_ok-boxes.boxes c.requires.whole c.requires.room c.requires.short each forms extra boxes in
    fit.origin

use Rattle.std.proofs.Common.{ap, ap₂, ◌∙◌, subst, List, length, take, rules, arith}
use Rattle.std.specs.List.{All}
use Rattle.ch_affine.specs.Rows.{IsBox}
use Rattle.ch_affine.specs.declared.system.Range.{Range}
use Rattle.ch_space.specs.declared.piece.Piece.{Piece}
use Rattle.ch_unroll.specs.Turns.{turn_boxes, turn_forms}
use Rattle.ch_unroll.proofs.Growth.{fits}
use Rattle.ch_unroll.proofs.turn.turn_piece.Goals as goal

pub reindexed-requires : goal.reindexed-requires
reindexed-requires c =
    let p = c.args.piece.now in
    let boxes = ap (λ (q : Piece). q.system.boxes) c.piece.view_is in
    let levels = ap (λ (q : Piece). q.levels) c.piece.view_is in
    let few = c.requires.few in
    let r = c.requires.remainder in
    let h =
    fits p c.args.level c.args.amount c.args.remainder c.as_slice-3.result.now c.in_ok-boxes.boxes c.requires.whole c.requires.level c.requires.room (omega arith) (omega arith)
    (subst (All IsBox) boxes c.piece.invariant.each)
    (c.as_slice-3.ensures ∙ c.in_ok-forms.ensures ∙ ap (λ n. turn_forms n c.args.level c.args.amount c.args.remainder) levels)
    (c.in_ok-boxes.ensures ∙ ap₂ (λ n (bs : List Range). turn_boxes c.args.level c.args.amount (take n bs)) levels (c.as_slice.ensures ∙ boxes)) in
    record {
      whole = c.requires.whole;
      levels = c.requires.room.limited.levels;
      many = h.many;
      long = h.long;
      near = h.near;
      extra_long = search rules;
      ranges = h.ranges;
      few = h.few;
      places = let w = c.requires.whole.places in let b = h.boxed in omega (arith, ap length (c.in_ok-places.ensures ∙ c.as_slice-2.ensures), ap (λ (q : Piece). length q.places) c.piece.view_is);
      origin = h.origin;
    }

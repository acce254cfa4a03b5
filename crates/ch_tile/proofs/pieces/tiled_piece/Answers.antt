use Rattle.std.proofs.Common.{ap, ◌∙◌, take, arith}
use Rattle.ch_moved.specs.Room.{origin_range}
use Rattle.ch_space.specs.declared.piece.Piece.{Piece}
use Rattle.ch_tile.proofs.Reindexing.{are_made, fits_made, tiled_made}
use Rattle.ch_tile.proofs.pieces.tiled_piece.Goals as goal

pub reindexed-requires : goal.reindexed-requires
reindexed-requires c =
    let p = c.args.piece.now in
    let view = c.piece.view_is in
    let m =
    are_made p c.args.level c.args.size c.args.outer _ _ c.as_slice-3.result.now c.in_ok-boxes.boxes _ c.as_slice-4.result.now c.in_ok-places.places c.as_slice-2.result.now
    (ap (λ (q : Piece). q.levels) view) (ap (take _) (c.as_slice.ensures ∙ ap (λ (q : Piece). q.system.boxes) view)) (c.as_slice-2.ensures ∙ ap (λ (q : Piece). q.places) view) (omega arith)
    (c.as_slice-3.ensures ∙ c.in_ok-forms.ensures) (c.in_ok-boxes.ensures.value origin_range) (c.as_slice-4.ensures ∙ c.in_ok-rows.ensures) c.in_ok-places.ensures in
    let f = fits_made p c.args.level c.args.size c.args.outer _ _ _ _ m c.requires.whole c.requires.room c.requires.levels c.requires.outer c.requires.level in
    record {
      whole = c.requires.whole;
      levels = f.levels;
      many = f.many;
      long = f.long;
      near = f.near;
      extra_long = f.extra_long;
      ranges = c.in_ok-boxes.ensures.ranges;
      few = f.few;
      places = f.places;
      origin = f.origin;
    }

pub returns : goal.returns
returns c =
    let p = c.args.piece.now in
    let view = c.piece.view_is in
    let m =
    are_made p c.args.level c.args.size c.args.outer _ _ c.as_slice-3.result.now c.in_ok-boxes.boxes _ c.as_slice-4.result.now c.in_ok-places.places c.as_slice-2.result.now
    (ap (λ (q : Piece). q.levels) view) (ap (take _) (c.as_slice.ensures ∙ ap (λ (q : Piece). q.system.boxes) view)) (c.as_slice-2.ensures ∙ ap (λ (q : Piece). q.places) view) (omega arith)
    (c.as_slice-3.ensures ∙ c.in_ok-forms.ensures) (c.in_ok-boxes.ensures.value origin_range) (c.as_slice-4.ensures ∙ c.in_ok-rows.ensures) c.in_ok-places.ensures in
    tiled_made p c.args.level c.args.size c.args.outer _ _ _ _ c.reindexed.result m c.reindexed.ensures

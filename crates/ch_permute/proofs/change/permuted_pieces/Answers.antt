use Rattle.std.proofs.Common.{ap, map, pos, ◌∙◌}
use Rattle.ch_permute.specs.Changed.{in_first}
use Rattle.ch_permute.specs.Permuted.{in_moving, moving, picked}
use Rattle.ch_permute.proofs.Becoming.{moves_is, next_become, turns_where}
use Rattle.ch_moved.proofs.Named.{item_whole}
use Rattle.ch_space.specs.Keeps.{places_of}
use Rattle.ch_space.specs.Pieces.{listed}
use Rattle.ch_permute.proofs.change.permuted_pieces.Goals as goal

pub permuted_piece-requires-clause-whole : goal.permuted_piece-requires-clause-whole
permuted_piece-requires-clause-whole c = item_whole c.args.pieces.now c.loop-piece.piece-index c.piece-item.result c.requires.apart c.loop-piece-test.true c.piece-item.is

pub permuted_piece-requires-clause-turns : goal.permuted_piece-requires-clause-turns
permuted_piece-requires-clause-turns c =
    let e =
    c.moves-is_moving.ensures ∙ ap (λ t. in_first c.first_moving-first.result (map pos c.as_slice-ours.result.now) (map pos t)) c.as_slice.ensures
    ∙ moves_is c.first_moving-first.result c.args.pieces.now c.args.number c.index-pieces-number.result c.args.order.now (map pos c.as_slice-ours.result.now) (places_of c.piece-item.result)
    c.requires.apart c.requires.number (ap (map pos) c.as_slice-ours.ensures) c.first_moving-first.ensures in
    turns_where c.args.pieces.now c.args.number c.loop-piece.piece-index c.piece-item.result c.args.order.now c.moves-is_moving.result c.requires.apart c.requires.number c.loop-piece-test.true
    c.piece-item.is c.requires.permutation c.requires.shared e

pub loop-piece-preserved : goal.loop-piece-preserved
loop-piece-preserved c =
    let e =
    c.moves-is_moving.ensures ∙ ap (λ t. in_first c.first_moving-first.result (map pos c.as_slice-ours.result.now) (map pos t)) c.as_slice.ensures
    ∙ moves_is c.first_moving-first.result c.args.pieces.now c.args.number c.index-pieces-number.result c.args.order.now (map pos c.as_slice-ours.result.now) (places_of c.piece-item.result)
    c.requires.apart c.requires.number (ap (map pos) c.as_slice-ours.ensures) c.first_moving-first.ensures in
    next_become (in_moving (listed c.args.pieces.now) (pos c.args.number) (moving 1 c.args.order.now)) (picked c.args.order.now) 1 c.args.pieces.now c.loop-piece.new c.push.new.self
    c.loop-piece.piece-index c.piece-item.result c.in_ok-permuted_piece.field-0 c.moves-is_moving.result c.loop-piece-test.true c.piece-item.is e
    c.loop-piece.invariant c.in_ok-permuted_piece.ensures c.in_ok-push.ensures.ok

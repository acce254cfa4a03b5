use Rattle.std.proofs.Common.{sym, ◌∙◌, ◌-◌, arith}
use Rattle.ch_moved.proofs.Named.{deep_enough, item_whole, shares_last}
use Rattle.ch_space.specs.Pieces.{listed}
use Rattle.ch_timed.specs.Groups.{in_group, piece}
use Rattle.ch_tile.proofs.Allowed.{shallow_in}
use Rattle.ch_tile.proofs.Made.{is_inside, next_become}
use Rattle.ch_tile.proofs.tiling.tiled_pieces.Goals as goal

pub tiled_if-requires-clause-whole : goal.tiled_if-requires-clause-whole
tiled_if-requires-clause-whole c = item_whole c.args.pieces.now c.loop-piece.piece-index c.piece-item.result c.requires.apart c.loop-piece-test.true c.piece-item.is

pub tiled_if-requires-clause-levels : goal.tiled_if-requires-clause-levels
tiled_if-requires-clause-levels c t =
    let e = is_inside c.args.pieces.now c.args.number c.args.outer c.index-pieces-number.result c.piece-item.result _ _ _ c.requires.apart c.requires.number c.as_slice-ours.ensures c.as_slice.ensures c.share-is_inside.ensures in
    shallow_in c.args.pieces.now c.args.number c.loop-piece.piece-index c.args.outer c.piece-item.result c.requires.apart c.loop-piece-test.true c.piece-item.is c.requires.shallow (sym e ∙ t)

pub tiled_if-requires-clause-level : goal.tiled_if-requires-clause-level
tiled_if-requires-clause-level c t =
    let e = is_inside c.args.pieces.now c.args.number c.args.outer c.index-pieces-number.result c.piece-item.result _ _ _ c.requires.apart c.requires.number c.as_slice-ours.ensures c.as_slice.ensures c.share-is_inside.ensures in
    let w = item_whole c.args.pieces.now c.loop-piece.piece-index c.piece-item.result c.requires.apart c.loop-piece-test.true c.piece-item.is in
    let s = shares_last c.args.pieces.now c.args.number c.loop-piece.piece-index c.args.outer c.args.level c.piece-item.result c.requires.apart c.loop-piece-test.true c.piece-item.is c.requires.shared (sym e ∙ t) in
    let d = deep_enough c.args.level (piece (listed c.args.pieces.now) c.args.number) c.piece-item.result w s in
    omega arith

pub loop-piece-preserved : goal.loop-piece-preserved
loop-piece-preserved c =
    let e = is_inside c.args.pieces.now c.args.number c.args.outer c.index-pieces-number.result c.piece-item.result _ _ _ c.requires.apart c.requires.number c.as_slice-ours.ensures c.as_slice.ensures c.share-is_inside.ensures in
    next_become (in_group (listed c.args.pieces.now) c.args.number c.args.outer) (c.args.level - 1) c.args.size (c.args.outer - 1) c.args.pieces.now c.loop-piece.new c.push.new.self c.loop-piece.piece-index
    c.piece-item.result c.in_ok-tiled_if.field-0 c.share-is_inside.result c.loop-piece-test.true c.piece-item.is e c.loop-piece.invariant c.in_ok-tiled_if.ensures c.in_ok-push.ensures.ok

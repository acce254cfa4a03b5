use Rattle.std.proofs.Common.{ap, sym, ◌∙◌, map, pos, get_or, arith}
use Rattle.ch_timed.specs.Vectors.{shares}
use Rattle.ch_unroll.proofs.Layouts.{next_width, same_width}
use Rattle.ch_unroll.proofs.layout.width_at.Goals.{then-share, else-share}
use Rattle.ch_unroll.proofs.layout.width_at.Goals as goal

pub loop-piece-preserved : goal.loop-piece-preserved
loop-piece-preserved c =
    let p = ap (map pos) c.as_slice-places.ensures in
    let s = c.share.ensures ∙ ap (shares c.args.level (map pos c.args.ours.now)) p in
    elim c.if-share.branch [
      | then-share w ↦ record {
        is =
            next_width c.args.level (map pos c.args.ours.now) c.args.pieces.now c.loop-piece.piece-index c.piece-item.result (get_or c.as_slice-places.result.now c.args.level 0) c.loop-piece.greatest c.if-share.greatest
            c.loop-piece-test.true c.piece-item.is (sym s ∙ w.if-share.true) (ap (λ z. get_or z c.args.level 0) c.as_slice-places.ensures) (w.greatest-is ∙ w.max-greatest.ensures) c.loop-piece.invariant.is;
        near = let n = c.loop-piece.invariant.near in let e = w.greatest-is ∙ w.max-greatest.ensures in omega arith;
      }
      | else-share w ↦ record {
        is =
            same_width c.args.level (map pos c.args.ours.now) c.args.pieces.now c.loop-piece.piece-index c.piece-item.result c.loop-piece.greatest c.if-share.greatest
            c.loop-piece-test.true c.piece-item.is (sym s ∙ w.if-share.false) w.greatest-is c.loop-piece.invariant.is;
        near = let n = c.loop-piece.invariant.near in let e = w.greatest-is in omega arith;
      }
    ]

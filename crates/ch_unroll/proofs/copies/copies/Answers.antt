use Rattle.std.proofs.Common.{ap, map, pos, ◌∙◌}
use Rattle.ch_timed.specs.Vectors.{shares}
use Rattle.ch_unroll.proofs.Pushing.{next_become}
use Rattle.ch_unroll.proofs.copies.copies.Goals as goal

pub loop-k-preserved : goal.loop-k-preserved
loop-k-preserved c =
    next_become c.args.layout (map pos c.args.ours.now) c.args.pieces.now c.loop-k.candidates c.push_piece.new.candidates c.loop-k.k c.index-pieces-k.result c.share-is_unrolled.result c.loop-k-test.true
    c.index-pieces-k.is (c.share-is_unrolled.ensures ∙ ap (λ z. shares c.args.layout.level (map pos c.args.ours.now) (map pos z)) c.as_slice.ensures) c.loop-k.invariant c.in_ok-push_piece.ensures

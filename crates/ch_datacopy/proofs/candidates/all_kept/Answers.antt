use Rattle.std.proofs.Common.{length}
use Rattle.ch_space.specs.declared.piece.Piece.{Piece}
use Rattle.ch_space.specs.Pieces.{instances}
use Rattle.ch_datacopy.proofs.Steps.{counted_at, kept_all, kept_more}
use Rattle.ch_datacopy.proofs.candidates.all_kept.Goals as goal

pub loop-k-preserved : goal.loop-k-preserved
loop-k-preserved c = λ p w.
    let many = counted_at (λ (q : Piece). length (instances q)) c.args.counts.now c.args.pieces.now c.loop-k.k c.index-pieces-k.result c.loop-k-test.true c.requires.counted c.index-pieces-k.is in
    kept_more p c.args.pieces.now c.loop-k.k c.loop-k.candidates c.push.new.self c.index-pieces-k.result c.in_ok-kept.field-0 c.loop-k-test.true c.index-pieces-k.is (c.loop-k.invariant p w)
    (c.in_ok-kept.ensures p w many) c.in_ok-push.ensures.ok

pub returns : goal.returns
returns c = λ p w. kept_all p c.args.pieces.now c.loop-k.k c.loop-k.candidates c.loop-k-test.false (c.loop-k.invariant p w)

use Rattle.std.proofs.Common.{sym, ◌∙◌, true, false, append-nil}
use Rattle.ch_space.proofs.Readings.{sharing_step}
use Rattle.ch_space.proofs.reading.numbers_sharing.Goals as goal
use Rattle.ch_space.proofs.reading.numbers_sharing.Goals.{then-share+in_ok-push, else-share}

pub loop-k-preserved : goal.loop-k-preserved
loop-k-preserved c =
    elim c.if-share.branch [
      | then-share+in_ok-push w ↦
          sharing_step c.args.level c.args.ours.now c.as_slice.result.now c.args.all.now c.loop-k.k c.index-all-k.result true c.loop-k.numbers c.if-share.numbers c.loop-k-test.true
          c.as_slice.ensures w.if-share.ensures c.loop-k.invariant (w.numbers-is ∙ w.in_ok-push.ensures.ok)
      | else-share w ↦
          sharing_step c.args.level c.args.ours.now c.as_slice.result.now c.args.all.now c.loop-k.k c.index-all-k.result false c.loop-k.numbers c.if-share.numbers c.loop-k-test.true
          c.as_slice.ensures w.if-share.ensures c.loop-k.invariant (w.numbers-is ∙ sym (append-nil c.loop-k.numbers))
    ]

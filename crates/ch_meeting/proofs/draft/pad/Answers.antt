use Rattle.std.proofs.Common.{arith}
use Rattle.ch_meeting.proofs.Stretches.{pad_more}
use Rattle.ch_meeting.proofs.draft.pad.Goals as goal

pub loop-k-preserved : goal.loop-k-preserved
loop-k-preserved c = (
  pad_more c.args.coefs.now c.loop-k.coefs c.push.new.self c.loop-k._k c.loop-k.invariant.1 c.loop-k.invariant.0 c.in_ok-push.ensures.ok,
  (let l = c.loop-k.invariant.1 in omega arith),
  (let l = c.loop-k-test.true in omega arith),
)

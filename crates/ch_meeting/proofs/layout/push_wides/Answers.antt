use Rattle.ch_meeting.proofs.Layouts.{wide_more}
use Rattle.ch_meeting.proofs.layout.push_wides.Goals as goal

pub loop-k-preserved : goal.loop-k-preserved
loop-k-preserved c = wide_more c.args.boxes.now c.loop-k.boxes c.push.new.self c.loop-k._k c.loop-k.invariant c.in_ok-push.ensures.ok

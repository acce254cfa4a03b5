use Rattle.std.proofs.Common.{refl}
use Rattle.ch_permute.specs.Turned.{source}
use Rattle.ch_permute.proofs.Steps.{next_box}
use Rattle.ch_permute.proofs.ranges.turned_boxes.Goals as goal

pub loop-k-preserved : goal.loop-k-preserved
loop-k-preserved c =
    next_box (source c.args.order.now) c.args.boxes.now c.loop-k.turned c.push.new.self c.loop-k.k c.source.result _ c.source.ensures refl c.loop-k.invariant c.in_ok-push.ensures.ok

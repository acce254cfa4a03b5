use Rattle.ch_permute.specs.Turned.{target}
use Rattle.ch_permute.proofs.Steps.{next_turned}
use Rattle.ch_permute.proofs.forms.turned_forms.Goals as goal

pub loop-k-preserved : goal.loop-k-preserved
loop-k-preserved c =
    next_turned (target c.args.order.now) c.args.levels c.loop-k.k c.target-to.result _ c.loop-k.forms _ c.target-to.ensures c.in_ok-unit.ensures c.loop-k.invariant c.in_ok-push.ensures.ok

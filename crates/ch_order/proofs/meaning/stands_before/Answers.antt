use Rattle.std.proofs.Common.{◌∙◌, ap}
use Rattle.ch_order.specs.Legal.{steps}
use Rattle.ch_order.specs.Walk.{rest}
use Rattle.ch_timed.specs.Order.{is_before}
use Rattle.ch_timed.specs.Timed.{same_step, step}
use Rattle.ch_order.proofs.Walks.{rest_start}
use Rattle.ch_order.proofs.meaning.stands_before.Goals as goal

pub loop-at-init : goal.loop-at-init
loop-at-init g c =
    ap (λ l. is_before same_step (step c.args.b.now) (step c.args.a.now) (steps l))
    (ap (λ v. rest v (g.T.Timed.list c.args.list.now)) c.new-at.ensures ∙ rest_start (g.T.Timed.list c.args.list.now) c.requires)

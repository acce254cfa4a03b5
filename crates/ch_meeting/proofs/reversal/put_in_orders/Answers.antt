use Rattle.std.proofs.Common.{drop}
use Rattle.std.proofs.lemmas.Result.{on_ok_weaker}
use Rattle.ch_meeting.specs.Cases.{InOrder}
use Rattle.ch_meeting.proofs.Least.{narrowed_draft}
use Rattle.ch_meeting.proofs.Reversals.{orders_put}
use Rattle.ch_meeting.proofs.reversal.put_in_orders.Goals as goal

pub put_in_order-requires-2-clause-draft : goal.put_in_order-requires-2-clause-draft
put_in_order-requires-2-clause-draft c = narrowed_draft c.args.draft.now c.put_in_order.new.draft (λ z. InOrder c.args.order (drop 0 z) (drop c.args.pieces.now.first.now.levels z)) c.requires.draft c.in_ok-put_in_order.ensures

pub returns : goal.returns
returns c =
    on_ok_weaker c.put_in_order-2.result
    (λ e. orders_put c.args.draft.now c.put_in_order.new.draft c.put_in_order-2.new.draft c.args.order c.args.turn c.args.pieces.now.first.now c.args.pieces.now.second.now c.args.pieces.now.new_second.now c.variables_of-start.result c.variables_of-start.ensures c.in_ok-put_in_order.ensures e)
    c.put_in_order-2.ensures

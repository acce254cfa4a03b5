use Rattle.std.proofs.lemmas.Result.{on_ok_weaker}
use Rattle.ch_space.proofs.LeastAfter.{some_left}
use Rattle.ch_meeting.proofs.Comparisons.{step_more}
use Rattle.ch_meeting.proofs.orders.+push_orders.Goals as goal

pub returns : goal.returns
returns t c =
    on_ok_weaker c.push_orders.result
    (λ e. step_more c.args.first.now c.args.second.now c.in-Some-Some.place.now c.in-Some-Some.other.now c.args.equal c.in-Some-Some.first.now c.in-Some-Some.second.now c.args.orders.now c.push-2.new.self
    c.push_orders.new.orders c.in-Some-Some.ensures.cases.0 c.in-Some-Some.ensures'.cases.0 c.if-place-other.false c.if-other-place.false
    (some_left c.in-Some-Some.first.now c.if-is_empty-2.ensures) (some_left c.in-Some-Some.second.now c.if-is_empty.ensures) c.in_ok-push.ensures.ok e)
    c.push_orders.ensures

use Rattle.std.proofs.Common.{◌≡◌, ◌∙◌, ap, sym, subst, ◌++◌, map}
use Rattle.std.specs.List.{All}
use Rattle.ch_meeting.specs.Cases.{IsWithin, behind, orders_of}
use Rattle.ch_meeting.proofs.Comparisons.{AtLevels, Exact, behind_none, orders_exact, orders_levels, orders_within}
use Rattle.ch_meeting.proofs.orders.orders.Goals as goal

pub returns-clause-exact : goal.returns-clause-exact
returns-clause-exact c =
    let e : c.push_orders.new.orders ≡ orders_of c.args.first.now c.args.second.now =
    c.in_ok-push_orders.ensures ∙ ap (λ t. t ++ map (behind 0) (orders_of c.args.first.now c.args.second.now)) c.new-orders.ensures ∙ behind_none (orders_of c.args.first.now c.args.second.now) in
    subst (Exact c.args.first.now c.args.second.now) (sym e) (orders_exact c.args.first.now c.args.second.now)

pub returns-clause-within : goal.returns-clause-within
returns-clause-within c =
    let e : c.push_orders.new.orders ≡ orders_of c.args.first.now c.args.second.now =
    c.in_ok-push_orders.ensures ∙ ap (λ t. t ++ map (behind 0) (orders_of c.args.first.now c.args.second.now)) c.new-orders.ensures ∙ behind_none (orders_of c.args.first.now c.args.second.now) in
    λ n m l k. subst (All (IsWithin n m)) (sym e) (orders_within n m c.args.first.now c.args.second.now l k)

pub returns-clause-levels : goal.returns-clause-levels
returns-clause-levels c =
    let e : c.push_orders.new.orders ≡ orders_of c.args.first.now c.args.second.now =
    c.in_ok-push_orders.ensures ∙ ap (λ t. t ++ map (behind 0) (orders_of c.args.first.now c.args.second.now)) c.new-orders.ensures ∙ behind_none (orders_of c.args.first.now c.args.second.now) in
    subst (AtLevels c.args.first.now c.args.second.now) (sym e) (orders_levels c.args.first.now c.args.second.now)

use Rattle.std.proofs.Common.{◌∙◌, ◌+◌, ◌≤◌, ap, sym, subst, length, take, length-take-le, arith}
use Rattle.ch_meeting.specs.declared.draft.Draft.{Draft}
use Rattle.ch_meeting.specs.Asked.{AreInOrders, AreReversalOf, boxes_of}
use Rattle.ch_meeting.proofs.Commons.{asks_more}
use Rattle.ch_meeting.proofs.Least.{kept_rows, narrowed_draft}
use Rattle.ch_meeting.proofs.Reversals.{none_reversed, reversal_long, reversal_size, some_reversed}
use Rattle.ch_meeting.proofs.reversal.least_by.Goals as goal

pub put_in_orders-requires-clause-draft : goal.put_in_orders-requires-clause-draft
put_in_orders-requires-clause-draft c = c.requires.asks.draft

pub put_in_orders-requires-clause-room : goal.put_in_orders-requires-clause-room
put_in_orders-requires-clause-room c =
    let e = ap length c.requires.asks.boxes_are in
    let n = reversal_size c.args.pieces.now.first.now c.args.pieces.now.second.now c.args.pieces.now.new_first.now c.args.pieces.now.new_second.now c.args.accesses.now.first.now c.args.accesses.now.second.now c.requires.pieces.first.whole c.requires.pieces.second.whole c.requires.pieces.new_first.whole c.requires.pieces.new_second.whole in
    omega (arith, e, n)

pub least-requires : goal.least-requires
least-requires c = narrowed_draft c.args.draft.now c.put_in_orders.new.draft (AreInOrders c.args.order c.args.turn c.args.pieces.now) c.requires.asks.draft c.in_ok-put_in_orders.ensures

pub slice_bounds-from_slice-end : goal.slice_bounds-from_slice-end
slice_bounds-from_slice-end c =
    sym (length-take-le (c.args.pieces.now.first.now.levels + c.args.pieces.now.second.now.levels) c.as_slice.result.now
    (subst (λ xs. c.args.pieces.now.first.now.levels + c.args.pieces.now.second.now.levels ≤ length xs) (sym c.as_slice.ensures)
    (reversal_long c.args.order c.args.turn c.args.pieces.now.first.now c.args.pieces.now.second.now c.args.pieces.now.new_first.now c.args.pieces.now.new_second.now c.args.accesses.now.first.now c.args.accesses.now.second.now c.requires.pieces.first c.requires.pieces.second c.requires.pieces.new_first c.requires.pieces.new_second c.requires.accesses.first c.requires.accesses.second c.requires.alike.array c.requires.alike.subscripts c.requires.comparable.first c.requires.comparable.second c.requires.within c.requires.turned_within c.put_in_orders.new.draft (asks_more c.args.draft.now c.put_in_orders.new.draft (boxes_of c.args.pieces.now c.args.accesses.now) (AreReversalOf c.args.pieces.now c.args.accesses.now) (AreInOrders c.args.order c.args.turn c.args.pieces.now) c.requires.asks c.in_ok-put_in_orders.ensures) c.in_ok-least.least c.in-Some.point c.in-Some.is c.in_ok-least.ensures.least)))

pub returns-in-None-clause-draft : goal.returns-in-None-clause-draft
returns-in-None-clause-draft c =
    kept_rows c.args.draft.now c.put_in_orders.new.draft c.keep_rows.new.self (AreInOrders c.args.order c.args.turn c.args.pieces.now) c.len-rows.result c.in_ok-put_in_orders.ensures c.len-rows.ensures
    (c.keep_rows.ensures.boxes ∙ ap (λ (d : Draft). d.boxes) c.in_ok-least.ensures.draft) (c.keep_rows.ensures.rows ∙ ap (λ (d : Draft). take c.len-rows.result d.rows) c.in_ok-least.ensures.draft)

pub returns-in-None-clause-least : goal.returns-in-None-clause-least
returns-in-None-clause-least c = none_reversed c.args.order c.args.turn c.args.pieces.now.first.now c.args.pieces.now.second.now c.args.pieces.now.new_first.now c.args.pieces.now.new_second.now c.args.accesses.now.first.now c.args.accesses.now.second.now c.requires.pieces.first c.requires.pieces.second c.requires.pieces.new_first c.requires.pieces.new_second c.requires.accesses.first c.requires.accesses.second c.requires.alike.array c.requires.alike.subscripts c.requires.comparable.first c.requires.comparable.second c.requires.within c.requires.turned_within c.put_in_orders.new.draft (asks_more c.args.draft.now c.put_in_orders.new.draft (boxes_of c.args.pieces.now c.args.accesses.now) (AreReversalOf c.args.pieces.now c.args.accesses.now) (AreInOrders c.args.order c.args.turn c.args.pieces.now) c.requires.asks c.in_ok-put_in_orders.ensures) c.in_ok-least.least c.in-None.is c.in_ok-least.ensures.least

pub returns-in_ok-pair-in-Some-clause-draft : goal.returns-in_ok-pair-in-Some-clause-draft
returns-in_ok-pair-in-Some-clause-draft c =
    kept_rows c.args.draft.now c.put_in_orders.new.draft c.keep_rows.new.self (AreInOrders c.args.order c.args.turn c.args.pieces.now) c.len-rows.result c.in_ok-put_in_orders.ensures c.len-rows.ensures
    (c.keep_rows.ensures.boxes ∙ ap (λ (d : Draft). d.boxes) c.in_ok-least.ensures.draft) (c.keep_rows.ensures.rows ∙ ap (λ (d : Draft). take c.len-rows.result d.rows) c.in_ok-least.ensures.draft)

pub returns-in_ok-pair-in-Some-clause-least : goal.returns-in_ok-pair-in-Some-clause-least
returns-in_ok-pair-in-Some-clause-least c =
    some_reversed c.args.order c.args.turn c.args.pieces.now.first.now c.args.pieces.now.second.now c.args.pieces.now.new_first.now c.args.pieces.now.new_second.now c.args.accesses.now.first.now c.args.accesses.now.second.now c.requires.pieces.first c.requires.pieces.second c.requires.pieces.new_first c.requires.pieces.new_second c.requires.accesses.first c.requires.accesses.second c.requires.alike.array c.requires.alike.subscripts c.requires.comparable.first c.requires.comparable.second c.requires.within c.requires.turned_within c.put_in_orders.new.draft (asks_more c.args.draft.now c.put_in_orders.new.draft (boxes_of c.args.pieces.now c.args.accesses.now) (AreReversalOf c.args.pieces.now c.args.accesses.now) (AreInOrders c.args.order c.args.turn c.args.pieces.now) c.requires.asks c.in_ok-put_in_orders.ensures) c.in_ok-least.least c.in-Some.point c.in_ok-pair-in-Some.pair c.in-Some.is
    (c.in_ok-pair-in-Some.ensures ∙ ap (take (c.args.pieces.now.first.now.levels + c.args.pieces.now.second.now.levels)) c.as_slice.ensures) c.in_ok-least.ensures.least

use Rattle.std.proofs.Common.{◌∙◌, ap, drop, take, length, arith}
use Rattle.ch_meeting.specs.declared.draft.Draft.{Draft}
use Rattle.ch_meeting.specs.Asked.{AreMeeting, meeting_boxes, pair_size}
use Rattle.ch_meeting.specs.Cases.{InOrder}
use Rattle.ch_meeting.proofs.Commons.{asks_more}
use Rattle.ch_meeting.proofs.Least.{kept_rows, narrowed_draft}
use Rattle.ch_meeting.proofs.Meetings.{meeting_answer, meeting_long}
use Rattle.ch_meeting.proofs.meeting.meets_in_order.Goals as goal

pub put_in_order-requires-clause-inside : goal.put_in_order-requires-clause-inside
put_in_order-requires-clause-inside c =
    let e = ap length c.requires.asks.boxes_are in
    let l = meeting_long c.args.first.now c.args.second.now c.args.accesses.now.first.now c.args.accesses.now.second.now c.requires.first.whole c.requires.second.whole in
    let x = c.requires.within.second in omega arith

pub put_in_order-requires-clause-inside_next : goal.put_in_order-requires-clause-inside_next
put_in_order-requires-clause-inside_next c = λ t.
    let e = ap length c.requires.asks.boxes_are in
    let l = meeting_long c.args.first.now c.args.second.now c.args.accesses.now.first.now c.args.accesses.now.second.now c.requires.first.whole c.requires.second.whole in
    let x = c.requires.within.next_second t in omega arith

pub least-requires : goal.least-requires
least-requires c = narrowed_draft c.args.draft.now c.put_in_order.new.draft (λ z. InOrder c.args.order (drop 0 z) (drop c.args.first.now.levels z)) c.requires.asks.draft c.in_ok-put_in_order.ensures

pub returns-clause-draft : goal.returns-clause-draft
returns-clause-draft c =
    kept_rows c.args.draft.now c.put_in_order.new.draft c.keep_rows.new.self (λ z. InOrder c.args.order (drop 0 z) (drop c.args.first.now.levels z)) c.len-rows.result c.in_ok-put_in_order.ensures c.len-rows.ensures
    (c.keep_rows.ensures.boxes ∙ ap (λ (d : Draft). d.boxes) c.in_ok-least.ensures.draft) (c.keep_rows.ensures.rows ∙ ap (λ (d : Draft). take c.len-rows.result d.rows) c.in_ok-least.ensures.draft)

pub returns-clause-answer : goal.returns-clause-answer
returns-clause-answer c =
    meeting_answer c.args.order c.args.first.now c.args.second.now c.args.accesses.now.first.now c.args.accesses.now.second.now c.requires.first c.requires.second c.requires.accesses.first c.requires.accesses.second c.requires.alike.array c.requires.alike.subscripts
    c.requires.within c.put_in_order.new.draft c.in_ok-least.least c.is_some.result
    (asks_more c.args.draft.now c.put_in_order.new.draft (meeting_boxes c.args.first.now c.args.second.now c.args.accesses.now.first.now c.args.accesses.now.second.now) (AreMeeting c.args.first.now c.args.second.now c.args.accesses.now.first.now c.args.accesses.now.second.now (pair_size c.args.first.now c.args.second.now)) (λ z. InOrder c.args.order (drop 0 z) (drop c.args.first.now.levels z)) c.requires.asks c.in_ok-put_in_order.ensures)
    c.in_ok-least.ensures.least c.is_some.ensures

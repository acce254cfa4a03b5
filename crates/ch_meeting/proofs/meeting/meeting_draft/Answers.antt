use Rattle.std.proofs.Common.{◌∙◌, ap, length, arith}
use Rattle.ch_meeting.specs.Asked.{AreMeeting, meeting_boxes, pair_size}
use Rattle.ch_meeting.proofs.Commons.{asked, fresh_draft}
use Rattle.ch_meeting.proofs.Meetings.{meeting_each, meeting_few, meeting_long, meeting_one}
use Rattle.ch_meeting.proofs.meeting.meeting_draft.Goals as goal

pub ask_meeting-requires-clause-draft : goal.ask_meeting-requires-clause-draft
ask_meeting-requires-clause-draft c =
    fresh_draft c.new-draft.result (meeting_boxes c.args.first.now c.args.second.now c.args.accesses.now.first.now c.args.accesses.now.second.now) (c.new-draft.ensures.boxes ∙ c.in_ok-boxes.ensures) c.new-draft.ensures.rows
    (meeting_few c.args.first.now c.args.second.now c.args.accesses.now.first.now c.args.accesses.now.second.now c.requires.first c.requires.second c.requires.accesses.first c.requires.accesses.second)
    (meeting_each c.args.first.now c.args.second.now c.args.accesses.now.first.now c.args.accesses.now.second.now c.known.ensures c.known-2.ensures)

pub ask_meeting-requires-clause-inside : goal.ask_meeting-requires-clause-inside
ask_meeting-requires-clause-inside c =
    let e = ap length (c.new-draft.ensures.boxes ∙ c.in_ok-boxes.ensures) in
    let l = meeting_long c.args.first.now c.args.second.now c.args.accesses.now.first.now c.args.accesses.now.second.now c.requires.first.whole c.requires.second.whole in
    omega arith

pub ask_meeting-requires-clause-unit : goal.ask_meeting-requires-clause-unit
ask_meeting-requires-clause-unit c =
    meeting_one c.args.first.now c.args.second.now c.args.accesses.now.first.now c.args.accesses.now.second.now c.new-draft.result.boxes c.requires.first.whole c.requires.second.whole
    (c.new-draft.ensures.boxes ∙ c.in_ok-boxes.ensures)

pub returns : goal.returns
returns c =
    asked c.new-draft.result c.ask_meeting.new.draft (meeting_boxes c.args.first.now c.args.second.now c.args.accesses.now.first.now c.args.accesses.now.second.now)
    (AreMeeting c.args.first.now c.args.second.now c.args.accesses.now.first.now c.args.accesses.now.second.now (pair_size c.args.first.now c.args.second.now))
    (c.new-draft.ensures.boxes ∙ c.in_ok-boxes.ensures) c.new-draft.ensures.rows
    (meeting_few c.args.first.now c.args.second.now c.args.accesses.now.first.now c.args.accesses.now.second.now c.requires.first c.requires.second c.requires.accesses.first c.requires.accesses.second)
    (meeting_each c.args.first.now c.args.second.now c.args.accesses.now.first.now c.args.accesses.now.second.now c.known.ensures c.known-2.ensures) c.in_ok-ask_meeting.ensures

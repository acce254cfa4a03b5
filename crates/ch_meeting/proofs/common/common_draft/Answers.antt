use Rattle.std.proofs.Common.{◌∙◌, ap, length, arith}
use Rattle.ch_meeting.specs.Asked.{AreCommon, common_boxes}
use Rattle.ch_meeting.proofs.Commons.{asked, common_each, common_few, common_long, fresh_draft}
use Rattle.ch_meeting.proofs.common.common_draft.Goals as goal

pub ask_common-requires-clause-draft : goal.ask_common-requires-clause-draft
ask_common-requires-clause-draft c =
    fresh_draft c.new-draft.result (common_boxes c.args.first.now c.args.second.now) (c.new-draft.ensures.boxes ∙ c.in_ok-boxes.ensures) c.new-draft.ensures.rows
    (common_few c.args.first.now c.args.second.now c.requires.first c.requires.second) (common_each c.args.first.now c.args.second.now c.known.ensures c.known-2.ensures)

pub ask_common-requires-clause-inside : goal.ask_common-requires-clause-inside
ask_common-requires-clause-inside c =
    let e = ap length (c.new-draft.ensures.boxes ∙ c.in_ok-boxes.ensures) in
    let l = common_long c.args.first.now c.args.second.now c.requires.first.whole c.requires.second.whole in
    omega arith

pub returns : goal.returns
returns c =
    asked c.new-draft.result c.ask_common.new.draft (common_boxes c.args.first.now c.args.second.now) (AreCommon c.args.first.now c.args.second.now)
    (c.new-draft.ensures.boxes ∙ c.in_ok-boxes.ensures) c.new-draft.ensures.rows
    (common_few c.args.first.now c.args.second.now c.requires.first c.requires.second) (common_each c.args.first.now c.args.second.now c.known.ensures c.known-2.ensures) c.in_ok-ask_common.ensures

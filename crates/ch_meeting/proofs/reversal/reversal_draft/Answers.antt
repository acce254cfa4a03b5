use Rattle.std.proofs.Common.{◌∙◌}
use Rattle.ch_meeting.specs.Asked.{AreReversal, reversal_boxes}
use Rattle.ch_meeting.proofs.Commons.{asked, fresh_draft}
use Rattle.ch_meeting.proofs.Reversals.{reversal_each, reversal_few}
use Rattle.ch_meeting.proofs.reversal.reversal_draft.Goals as goal

pub ask_reversal-requires-clause-draft : goal.ask_reversal-requires-clause-draft
ask_reversal-requires-clause-draft c =
    fresh_draft c.new-draft.result (reversal_boxes c.args.pieces.now.first.now c.args.pieces.now.second.now c.args.pieces.now.new_first.now c.args.pieces.now.new_second.now c.args.accesses.now.first.now c.args.accesses.now.second.now) (c.new-draft.ensures.boxes ∙ c.in_ok-boxes.ensures) c.new-draft.ensures.rows
    (reversal_few c.args.pieces.now.first.now c.args.pieces.now.second.now c.args.pieces.now.new_first.now c.args.pieces.now.new_second.now c.args.accesses.now.first.now c.args.accesses.now.second.now c.requires.pieces.first c.requires.pieces.second c.requires.pieces.new_first c.requires.pieces.new_second c.requires.accesses.first c.requires.accesses.second)
    (reversal_each c.args.pieces.now.first.now c.args.pieces.now.second.now c.args.pieces.now.new_first.now c.args.pieces.now.new_second.now c.args.accesses.now.first.now c.args.accesses.now.second.now c.known.ensures c.known-2.ensures c.known-3.ensures c.known-4.ensures)

pub returns : goal.returns
returns c =
    asked c.new-draft.result c.ask_reversal.new.draft (reversal_boxes c.args.pieces.now.first.now c.args.pieces.now.second.now c.args.pieces.now.new_first.now c.args.pieces.now.new_second.now c.args.accesses.now.first.now c.args.accesses.now.second.now) (AreReversal c.args.pieces.now.first.now c.args.pieces.now.second.now c.args.pieces.now.new_first.now c.args.pieces.now.new_second.now c.args.accesses.now.first.now c.args.accesses.now.second.now)
    (c.new-draft.ensures.boxes ∙ c.in_ok-boxes.ensures) c.new-draft.ensures.rows
    (reversal_few c.args.pieces.now.first.now c.args.pieces.now.second.now c.args.pieces.now.new_first.now c.args.pieces.now.new_second.now c.args.accesses.now.first.now c.args.accesses.now.second.now c.requires.pieces.first c.requires.pieces.second c.requires.pieces.new_first c.requires.pieces.new_second c.requires.accesses.first c.requires.accesses.second)
    (reversal_each c.args.pieces.now.first.now c.args.pieces.now.second.now c.args.pieces.now.new_first.now c.args.pieces.now.new_second.now c.args.accesses.now.first.now c.args.accesses.now.second.now c.known.ensures c.known-2.ensures c.known-3.ensures c.known-4.ensures) c.in_ok-ask_reversal.ensures

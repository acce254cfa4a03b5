use Rattle.std.proofs.Common.{◌∙◌, ◌+◌, ap, ap₂, length, arith}
use Rattle.std.proofs.lemmas.Result.{on_ok_weaker}
use Rattle.ch_meeting.proofs.Reversals.{reversal_asked, reversal_one, reversal_size}
use Rattle.ch_meeting.proofs.reversal.ask_reversal.Goals as goal

pub ask_meeting-requires-clause-inside : goal.ask_meeting-requires-clause-inside
ask_meeting-requires-clause-inside c =
    let e = ap length c.requires.boxes in
    let n = reversal_size c.args.pieces.now.first.now c.args.pieces.now.second.now c.args.pieces.now.new_first.now c.args.pieces.now.new_second.now c.args.accesses.now.first.now c.args.accesses.now.second.now c.requires.pieces.first.whole c.requires.pieces.second.whole c.requires.pieces.new_first.whole c.requires.pieces.new_second.whole in
    omega (arith, e, n, c.variables_of-start.ensures, c.variables_of.ensures)

pub ask_meeting-requires-clause-unit : goal.ask_meeting-requires-clause-unit
ask_meeting-requires-clause-unit c =
    reversal_one c.args.pieces.now.first.now c.args.pieces.now.second.now c.args.pieces.now.new_first.now c.args.pieces.now.new_second.now c.args.accesses.now.first.now c.args.accesses.now.second.now c.args.draft.now.boxes c.requires.pieces.first.whole c.requires.pieces.second.whole c.requires.pieces.new_first.whole c.requires.pieces.new_second.whole
    c.requires.boxes (c.variables_of-start.result + c.variables_of.result) (ap₂ (λ m n. m + n) c.variables_of-start.ensures c.variables_of.ensures)

pub ask_turned-requires-clause-inside : goal.ask_turned-requires-clause-inside
ask_turned-requires-clause-inside c =
    let e = ap length (c.in_ok-ask_meeting.ensures.boxes ∙ c.requires.boxes) in
    let n = reversal_size c.args.pieces.now.first.now c.args.pieces.now.second.now c.args.pieces.now.new_first.now c.args.pieces.now.new_second.now c.args.accesses.now.first.now c.args.accesses.now.second.now c.requires.pieces.first.whole c.requires.pieces.second.whole c.requires.pieces.new_first.whole c.requires.pieces.new_second.whole in
    omega (arith, e, n, c.variables_of-start.ensures, c.variables_of.ensures, c.requires.comparable.first)

pub ask_turned-requires-clause-inside_others : goal.ask_turned-requires-clause-inside_others
ask_turned-requires-clause-inside_others c =
    let e = ap length (c.in_ok-ask_meeting.ensures.boxes ∙ c.requires.boxes) in
    let n = reversal_size c.args.pieces.now.first.now c.args.pieces.now.second.now c.args.pieces.now.new_first.now c.args.pieces.now.new_second.now c.args.accesses.now.first.now c.args.accesses.now.second.now c.requires.pieces.first.whole c.requires.pieces.second.whole c.requires.pieces.new_first.whole c.requires.pieces.new_second.whole in
    omega (arith, e, n, c.variables_of-start.ensures, c.variables_of.ensures, c.requires.comparable.second, c.len.ensures)

pub returns : goal.returns
returns c =
    on_ok_weaker c.ask_turned.result
    (λ e. reversal_asked c.args.pieces.now.first.now c.args.pieces.now.second.now c.args.pieces.now.new_first.now c.args.pieces.now.new_second.now c.args.accesses.now.first.now c.args.accesses.now.second.now c.args.draft.now c.ask_meeting.new.draft c.ask_turned.new.draft c.variables_of-start.result c.variables_of.result
    c.len.result c.variables_of-start.ensures c.variables_of.ensures c.len.ensures c.in_ok-ask_meeting.ensures e)
    c.ask_turned.ensures

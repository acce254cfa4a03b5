use Rattle.std.proofs.lemmas.Result.{on_ok_weaker}
use Rattle.ch_meeting.proofs.Steps.{modulus_pushed}
use Rattle.ch_meeting.proofs.cells.in_modulus.Goals as goal

pub returns : goal.returns
returns c =
    on_ok_weaker c.at_least_zero-2.result
    (λ e. modulus_pushed c.args.draft.now c.at_least_zero.new.self c.at_least_zero-2.new.self c.args.sub.now c.args.iters c.args.turn c.args.one c.in_ok-left_row.field-0 c.in_ok-below_row.field-0
    c.if-sub-eq0.false c.requires.unit c.in_ok-left_row.ensures.value c.in_ok-below_row.ensures.value c.in_ok-at_least_zero.ensures e)
    c.at_least_zero-2.ensures

use Rattle.std.proofs.lemmas.Result.{on_ok_weaker}
use Rattle.ch_meeting.proofs.Steps.{same_pushed}
use Rattle.ch_meeting.proofs.cells.same_subscript.Goals as goal

pub returns : goal.returns
returns c =
    on_ok_weaker c.in_modulus-2.result
    (λ e. same_pushed c.args.draft.now c.zero.new.self c.in_modulus.new.draft c.in_modulus-2.new.draft c.args.sub.now c.args.other.now c.args.sites.here c.args.sites.there c.args.sites.one c.in_ok-row.row
    c.requires.unit c.in_ok-row.ensures.value c.in_ok-zero.ensures c.in_ok-in_modulus.ensures e)
    c.in_modulus-2.ensures

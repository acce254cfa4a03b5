use Rattle.std.proofs.Common.{SFits, w64, rules}
use Rattle.std.proofs.lemmas.Int.{to_z-of_z}
use Rattle.ch_meeting.proofs.RowValues.{step_value}
use Rattle.ch_meeting.proofs.orders.step_row.Goals as goal

pub returns-clause-value : goal.returns-clause-value
returns-clause-value c =
    let f : SFits w64 c.args.constant = search rules in
    step_value c.args.constant c.in_ok-coefs.coefs c.add_one.new.coefs c.add_one-2.new.coefs c.args.first c.args.second c.row.result c.in_ok-coefs.ensures.sum c.in_ok-add_one.ensures.sum
    c.in_ok-add_one-2.ensures.sum (simp to_z-of_z at c.row.ensures.value)

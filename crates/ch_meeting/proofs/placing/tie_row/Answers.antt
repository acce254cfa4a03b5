use Rattle.std.proofs.Common.{SFits, w64, rules}
use Rattle.std.proofs.lemmas.Int.{to_z-of_z}
use Rattle.ch_meeting.proofs.RowValues.{tie_value}
use Rattle.ch_meeting.proofs.placing.tie_row.Goals as goal

pub returns-clause-value : goal.returns-clause-value
returns-clause-value c =
    let f : SFits w64 c.form.inside.constant = search rules in
    tie_value c.args.form.now c.form.inside.coefs c.form.inside.constant c.form.view_is c.as_slice.result.now c.in_ok-coefs.coefs c.add.new.coefs c.add_one.new.coefs c.args.levels c.args.iter c.row.result
    c.as_slice.ensures c.in_ok-coefs.ensures.sum c.in_ok-add.ensures.sum c.in_ok-add_one.ensures.sum (simp to_z-of_z at c.row.ensures.value)

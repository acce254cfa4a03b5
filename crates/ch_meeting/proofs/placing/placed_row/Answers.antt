use Rattle.std.proofs.Common.{SFits, w64, rules, ap, ◌∙◌, take, drop}
use Rattle.std.proofs.lemmas.Int.{to_z-of_z}
use Rattle.ch_meeting.proofs.RowValues.{placed_value}
use Rattle.ch_meeting.proofs.placing.placed_row.Goals as goal

pub returns-clause-value : goal.returns-clause-value
returns-clause-value c =
    let f : SFits w64 c.form.inside.constant = search rules in
    placed_value c.args.form.now c.form.inside.coefs c.form.inside.constant c.form.view_is c.split_at.result.0.now c.split_at.result.1.now c.in_ok-coefs.coefs c.add.new.coefs c.add-2.new.coefs
    c.args.count c.args.levels c.args.hidden c.row.result
    (c.split_at.ensures.front ∙ ap (take c.args.count) c.as_slice.ensures) (c.split_at.ensures.back ∙ ap (drop c.args.count) c.as_slice.ensures) c.in_ok-coefs.ensures.sum c.in_ok-add.ensures.sum c.in_ok-add-2.ensures.sum (simp to_z-of_z at c.row.ensures.value)

use Rattle.std.proofs.Common.{◌∙◌, ap, length, SFits, w64, rules}
use Rattle.std.proofs.lemmas.Int.{to_z-of_z}
use Rattle.ch_meeting.proofs.Stretches.{length_padded, row_small, row_value}
use Rattle.ch_meeting.proofs.draft.row.Goals as goal

pub invariant_of-result : goal.invariant_of-result
invariant_of-result c =
    let f : SFits w64 c.args.constant = search rules in
    simp to_z-of_z (row_small c.args.coefs c.pad.new.coefs c.args.variables c.args.constant c.requires.fits c.requires.few c.requires.small c.requires.constant c.in_ok-pad.ensures)

pub returns-clause-long : goal.returns-clause-long
returns-clause-long c = ap length c.in_ok-pad.ensures ∙ length_padded c.args.variables c.args.coefs c.requires.fits

pub returns-clause-value : goal.returns-clause-value
returns-clause-value c =
    let f : SFits w64 c.args.constant = search rules in
    simp to_z-of_z (row_value c.args.coefs c.pad.new.coefs c.args.variables c.args.constant c.in_ok-pad.ensures)

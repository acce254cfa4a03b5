use Rattle.std.proofs.Common.{ap, ◌∙◌, length, arith}
use Rattle.ch_affine.specs.Form.{Form}
use Rattle.ch_datacopy.proofs.Celled.{kept_many}
use Rattle.ch_datacopy.proofs.widths.second_row.Goals as goal

pub kept_row-requires-clause-first : goal.kept_row-requires-clause-first
kept_row-requires-clause-first c = let l = c.requires.levels in omega (arith, l)

pub kept_row-requires-2-clause-first : goal.kept_row-requires-2-clause-first
kept_row-requires-2-clause-first c =
    let l = c.requires.levels in
    let e = ap (λ (g : Form). length g.coefs) c.in_ok-wide.ensures ∙ kept_many c.args.around c.args.cells 0 c.args.row.now (omega (arith, l)) in
    omega (arith, l, e)

pub kept_row-requires-2-clause-room : goal.kept_row-requires-2-clause-room
kept_row-requires-2-clause-room c =
    let l = c.requires.levels in
    let r = c.requires.room in
    let e = ap (λ (g : Form). length g.coefs) c.in_ok-wide.ensures ∙ kept_many c.args.around c.args.cells 0 c.args.row.now (omega (arith, l)) in
    omega (arith, r, e)

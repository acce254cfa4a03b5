use Rattle.ch_datacopy.proofs.Redirects.{cell_access}
use Rattle.ch_datacopy.proofs.redirect.moved_cell.Goals as goal

pub returns : goal.returns
returns c = λ p t e. cell_access p c.args.target c.args.extents.now c.args.around c.in_ok-variables.field-0 t e c.in_ok-variables.ensures

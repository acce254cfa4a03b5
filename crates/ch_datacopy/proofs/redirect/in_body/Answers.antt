use Rattle.ch_datacopy.proofs.Redirects.{in_is}
use Rattle.ch_datacopy.proofs.redirect.in_body.Goals as goal

pub returns : goal.returns
returns c = λ p t e. in_is p c.in_ok-cell.cell c.in_ok-redirected_access.field-0 (c.in_ok-cell.ensures p t e) (c.in_ok-redirected_access.ensures p t)

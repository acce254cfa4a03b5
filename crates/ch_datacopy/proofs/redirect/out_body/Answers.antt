use Rattle.ch_datacopy.proofs.Redirects.{out_is}
use Rattle.ch_datacopy.proofs.redirect.out_body.Goals as goal

pub returns : goal.returns
returns c = λ p t e. out_is p c.in_ok-cell.cell c.in_ok-redirected.redirected (c.in_ok-cell.ensures p t e) (c.in_ok-redirected.ensures p t)

use Rattle.ch_datacopy.proofs.Redirects.{body_is}
use Rattle.ch_datacopy.proofs.redirect.redirected.Goals as goal

pub returns : goal.returns
returns c = λ p t.
    body_is p c.args.body.now (record { write = c.in_ok-redirected_access.field-0; right = c.in_ok-redirected_expr.field-0 }) (c.in_ok-redirected_access.ensures p t) (c.in_ok-redirected_expr.ensures p t)

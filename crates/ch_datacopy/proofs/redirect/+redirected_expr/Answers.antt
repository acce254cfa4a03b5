use Rattle.ch_copied.proofs.Rolls.{redirect_add, redirect_mul, redirect_sub}
use Rattle.ch_nest.specs.declared.nest.Expr.TheVariants.{Add, Mul, Sub}
use Rattle.ch_datacopy.proofs.Redirects.{neg_is, two_are}
use Rattle.ch_datacopy.proofs.redirect.+redirected_expr.Goals as goal

pub returns-in_ok-new-in-Neg : goal.returns-in_ok-new-in-Neg
returns-in_ok-new-in-Neg t c = λ p w.
    neg_is p c.args.expr.now c.in-Neg.inner c.get.result.now c.in_ok-inner-in-Neg.inner c.in_ok-new-in-Neg.field-0 c.in-Neg.is c.get.ensures (c.in_ok-inner-in-Neg.ensures p w) c.in_ok-new-in-Neg.ensures

pub returns-in_ok-new-in-Add-2 : goal.returns-in_ok-new-in-Add-2
returns-in_ok-new-in-Add-2 t c = λ p w.
    two_are p Add (redirect_add p) c.args.expr.now c.in-Add.left c.in-Add.right c.get-in-Add.result.now c.get-in-Add-2.result.now c.in_ok-left-in-Add.left c.in_ok-right-in-Add.right
    c.in_ok-new-in-Add.field-0 c.in_ok-new-in-Add-2.field-0 c.in-Add.is c.get-in-Add.ensures c.get-in-Add-2.ensures (c.in_ok-left-in-Add.ensures p w) (c.in_ok-right-in-Add.ensures p w)
    c.in_ok-new-in-Add.ensures c.in_ok-new-in-Add-2.ensures

pub returns-in_ok-new-in-Sub-2 : goal.returns-in_ok-new-in-Sub-2
returns-in_ok-new-in-Sub-2 t c = λ p w.
    two_are p Sub (redirect_sub p) c.args.expr.now c.in-Sub.left c.in-Sub.right c.get-in-Sub.result.now c.get-in-Sub-2.result.now c.in_ok-left-in-Sub.left c.in_ok-right-in-Sub.right
    c.in_ok-new-in-Sub.field-0 c.in_ok-new-in-Sub-2.field-0 c.in-Sub.is c.get-in-Sub.ensures c.get-in-Sub-2.ensures (c.in_ok-left-in-Sub.ensures p w) (c.in_ok-right-in-Sub.ensures p w)
    c.in_ok-new-in-Sub.ensures c.in_ok-new-in-Sub-2.ensures

pub returns-in_ok-new-in-Mul-2 : goal.returns-in_ok-new-in-Mul-2
returns-in_ok-new-in-Mul-2 t c = λ p w.
    two_are p Mul (redirect_mul p) c.args.expr.now c.in-Mul.left c.in-Mul.right c.get-in-Mul.result.now c.get-in-Mul-2.result.now c.in_ok-left-in-Mul.left c.in_ok-right-in-Mul.right
    c.in_ok-new-in-Mul.field-0 c.in_ok-new-in-Mul-2.field-0 c.in-Mul.is c.get-in-Mul.ensures c.get-in-Mul-2.ensures (c.in_ok-left-in-Mul.ensures p w) (c.in_ok-right-in-Mul.ensures p w)
    c.in_ok-new-in-Mul.ensures c.in_ok-new-in-Mul-2.ensures

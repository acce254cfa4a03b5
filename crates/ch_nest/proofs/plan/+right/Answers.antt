use Rattle.ch_nest.proofs.Flattens.{flat_add, flat_mul, flat_neg, flat_sub}
use Rattle.ch_nest.proofs.plan.+right.Goals as goal

pub boxed_form-returns : goal.boxed_form-returns
boxed_form-returns t c = rw c.in_ok-flat-2.ensures c.in_ok-flat.ensures

pub expr_form-returns-in_ok-x-in-Neg : goal.expr_form-returns-in_ok-x-in-Neg
expr_form-returns-in_ok-x-in-Neg t c =
    let x = rw c.get.ensures at c.in_ok-x-in-Neg.ensures in
    flat_neg c.args.arrays.now c.args.depth c.args.expr.now c.in-Neg.x c.in_ok-x-in-Neg.x c.in-Neg.is x

pub expr_form-returns-in_ok-right-in-Add : goal.expr_form-returns-in_ok-right-in-Add
expr_form-returns-in_ok-right-in-Add t c =
    let x = rw c.get-in-Add.ensures at c.in_ok-left-in-Add.ensures in
    let y = rw c.get-in-Add-2.ensures at c.in_ok-right-in-Add.ensures in
    flat_add c.args.arrays.now c.args.depth c.args.expr.now c.in-Add.x c.in-Add.y c.in_ok-left-in-Add.left c.in_ok-right-in-Add.right c.in-Add.is x y

pub expr_form-returns-in_ok-right-in-Sub : goal.expr_form-returns-in_ok-right-in-Sub
expr_form-returns-in_ok-right-in-Sub t c =
    let x = rw c.get-in-Sub.ensures at c.in_ok-left-in-Sub.ensures in
    let y = rw c.get-in-Sub-2.ensures at c.in_ok-right-in-Sub.ensures in
    flat_sub c.args.arrays.now c.args.depth c.args.expr.now c.in-Sub.x c.in-Sub.y c.in_ok-left-in-Sub.left c.in_ok-right-in-Sub.right c.in-Sub.is x y

pub expr_form-returns-in_ok-right-in-Mul : goal.expr_form-returns-in_ok-right-in-Mul
expr_form-returns-in_ok-right-in-Mul t c =
    let x = rw c.get-in-Mul.ensures at c.in_ok-left-in-Mul.ensures in
    let y = rw c.get-in-Mul-2.ensures at c.in_ok-right-in-Mul.ensures in
    flat_mul c.args.arrays.now c.args.depth c.args.expr.now c.in-Mul.x c.in-Mul.y c.in_ok-left-in-Mul.left c.in_ok-right-in-Mul.right c.in-Mul.is x y

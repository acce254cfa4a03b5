use Rattle.std.proofs.Common.{length, rules, subst, sym, SFits, w64}
use Rattle.std.proofs.lemmas.Int.{to_z-of_z}
use Rattle.ch_plan.specs.Ready.{IsSumOf, extents_in}
use Rattle.ch_eval.proofs.Fitting.{fits_iter}
use Rattle.ch_eval.proofs.Rights.{add_planned, iter_planned, mul_planned, neg_planned, number_planned, read_planned, sub_planned}
use Rattle.ch_eval.proofs.make.+right.Goals as goal

pub boxed_right-returns : goal.boxed_right-returns
boxed_right-returns t c = rw c.in_ok-right-2.ensures c.in_ok-right.ensures

pub right_of-returns-in-Number : goal.right_of-returns-in-Number
right_of-returns-in-Number t c =
    let site = c.args.site.now in
    let f : SFits w64 c.in-Number.n = search rules in
    simp to_z-of_z (number_planned (extents_in site.arrays.now) site.origin.now site.around c.in-Number.n c.args.expr.now c.in-Number.is)

pub right_of-returns-in_ok-sum-in-Iter : goal.right_of-returns-in_ok-sum-in-Iter
right_of-returns-in_ok-sum-in-Iter t c =
    let site = c.args.site.now in
    let sum : IsSumOf c.index-site-k.result c.in_ok-sum-in-Iter.sum = subst (λ g. IsSumOf g c.in_ok-sum-in-Iter.sum) (sym c.index-site-k.is) c.in_ok-sum-in-Iter.ensures in
    iter_planned (extents_in site.arrays.now) site.origin.now site.around c.in-Iter.k c.args.expr.now c.index-site-k.result c.in_ok-sum-in-Iter.sum c.in-Iter.is c.requires.origin
    (fits_iter (length site.arrays.now) (length site.origin.now) c.args.expr.now c.in-Iter.k c.in-Iter.is c.requires.fits) c.index-site-k.is sum

pub right_of-returns-in_ok-spot-in-Read : goal.right_of-returns-in_ok-spot-in-Read
right_of-returns-in_ok-spot-in-Read t c =
    let site = c.args.site.now in
    read_planned (extents_in site.arrays.now) site.origin.now site.around c.in-Read.access c.args.expr.now c.in_ok-spot-in-Read.spot c.in-Read.is c.in_ok-spot-in-Read.ensures

pub right_of-returns-in_ok-x-in-Neg : goal.right_of-returns-in_ok-x-in-Neg
right_of-returns-in_ok-x-in-Neg t c =
    let site = c.args.site.now in
    let x = rw c.get.ensures at c.in_ok-x-in-Neg.ensures in
    neg_planned (extents_in site.arrays.now) site.origin.now site.around c.args.expr.now c.in-Neg.x c.in_ok-x-in-Neg.x c.in-Neg.is x

pub right_of-returns-in_ok-right-in-Add : goal.right_of-returns-in_ok-right-in-Add
right_of-returns-in_ok-right-in-Add t c =
    let site = c.args.site.now in
    let x = rw c.get-in-Add.ensures at c.in_ok-left-in-Add.ensures in
    let y = rw c.get-in-Add-2.ensures at c.in_ok-right-in-Add.ensures in
    add_planned (extents_in site.arrays.now) site.origin.now site.around c.args.expr.now c.in-Add.x c.in-Add.y c.in_ok-left-in-Add.left c.in_ok-right-in-Add.right c.in-Add.is x y

pub right_of-returns-in_ok-right-in-Sub : goal.right_of-returns-in_ok-right-in-Sub
right_of-returns-in_ok-right-in-Sub t c =
    let site = c.args.site.now in
    let x = rw c.get-in-Sub.ensures at c.in_ok-left-in-Sub.ensures in
    let y = rw c.get-in-Sub-2.ensures at c.in_ok-right-in-Sub.ensures in
    sub_planned (extents_in site.arrays.now) site.origin.now site.around c.args.expr.now c.in-Sub.x c.in-Sub.y c.in_ok-left-in-Sub.left c.in_ok-right-in-Sub.right c.in-Sub.is x y

pub right_of-returns-in_ok-right-in-Mul : goal.right_of-returns-in_ok-right-in-Mul
right_of-returns-in_ok-right-in-Mul t c =
    let site = c.args.site.now in
    let x = rw c.get-in-Mul.ensures at c.in_ok-left-in-Mul.ensures in
    let y = rw c.get-in-Mul-2.ensures at c.in_ok-right-in-Mul.ensures in
    mul_planned (extents_in site.arrays.now) site.origin.now site.around c.args.expr.now c.in-Mul.x c.in-Mul.y c.in_ok-left-in-Mul.left c.in_ok-right-in-Mul.right c.in-Mul.is x y

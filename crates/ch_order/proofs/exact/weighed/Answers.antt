use Rattle.std.proofs.Common.{rules, ◌≡◌, ◌≤◌, ◌<◌, ◌^◌, ◌+ℤ◌, ◌*ℤ◌, pos, unsigned_abs, ap, ◌∙◌, length, get_or, SFits, w64, to_z, of_z, arith}
use Rattle.std.specs.Int.{w128}
use Rattle.std.proofs.lemmas.Int.{ints, to_z-of_z}
use Rattle.ch_affine.specs.Affine.{dot}
use Rattle.ch_order.specs.WideNumbers.{number}
use Rattle.ch_order.proofs.WideSums.{term_more, sum_ends}
use Rattle.ch_order.proofs.exact.weighed.Goals as goal

pub loop-k-preserved : goal.loop-k-preserved
loop-k-preserved c =
    let t : c.loop-k.k < length c.args.coefs.now = omega arith in
    let u : c.loop-k.k < length c.args.point.now = omega arith in
    let coef : SFits w64 (get_or c.args.coefs.now c.loop-k.k (pos 0)) = search rules in
    let x : SFits w64 (get_or c.args.point.now c.loop-k.k (pos 0)) = search rules in
    let product : c.product.result ≡ get_or c.args.coefs.now c.loop-k.k (pos 0) *ℤ get_or c.args.point.now c.loop-k.k (pos 0) = simp to_z-of_z at c.product.ensures.value in
    let small : unsigned_abs c.product.result ≤ 2 ^ 126 = c.product.ensures.bound in
    let same : to_z w128 (of_z w128 c.product.result) ≡ c.product.result = omega (arith, ints) in
    record {
      rest =
          term_more c.args.coefs.now c.args.point.now c.loop-k.k (number c.loop-k.sum.high c.loop-k.sum.low) c.product.result
          (number c.plus-sum-in-loop-k.result.high c.plus-sum-in-loop-k.result.low) _ t u product
          (c.plus-sum-in-loop-k.ensures.value ∙ ap (λ z. number c.loop-k.sum.high c.loop-k.sum.low +ℤ z) same) c.loop-k.invariant.rest;
      low = c.plus-sum-in-loop-k.ensures.low;
      high = let h = c.plus-sum-in-loop-k.ensures.high in let i = c.loop-k.invariant.high in omega arith;
    }

pub returns-clause-value : goal.returns-clause-value
returns-clause-value c =
    let constant : to_z w64 (of_z w64 c.args.constant) ≡ c.args.constant = omega (arith, ints) in
    sum_ends c.args.coefs.now c.args.point.now c.loop-k.k c.min-terms.result _ _ c.min-terms.ensures c.loop-k-test.false c.loop-k.invariant.rest
    ∙ ap (λ z. z +ℤ dot c.args.coefs.now c.args.point.now) constant

use Rattle.std.proofs.Common.{arith}
use Rattle.ch_grid.proofs.Sizes.{product_next, product_le, product_small, good_at, many, no_param}
use Rattle.ch_grid.proofs.grid.has_many.Goals as goal

pub size_of-requires : goal.size_of-requires
size_of-requires c = good_at c.args.params.now c.loop-param.param-index no_param c.requires c.loop-param-test.true

pub overflow_mul-points : goal.overflow_mul-points
overflow_mul-points c = omega (arith, product_small c.loop-param.points c.size_of.result c.loop-param.invariant.1 c.size_of.ensures.few)

pub returns-then-points-gt-MAX_POINTS : goal.returns-then-points-gt-MAX_POINTS
returns-then-points-gt-MAX_POINTS c =
    let l = product_le c.args.params.now c.loop-param.param-index c.loop-param.points c.size_of.result c.loop-param.invariant.0 c.size_of.ensures.value c.loop-param-test.true in
    many c.args.params.now (omega (arith, l))

pub loop-param-preserved : goal.loop-param-preserved
loop-param-preserved c = (product_next c.args.params.now c.loop-param.param-index c.loop-param.points c.size_of.result c.loop-param.invariant.0 c.size_of.ensures.value c.loop-param-test.true, omega arith)

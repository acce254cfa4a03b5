use Rattle.std.proofs.Common.{arith, ap}
use Rattle.ch_grid.specs.Grid.{sizes}
use Rattle.ch_grid.specs.Points.{count}
use Rattle.ch_grid.proofs.Sizes.{product_next, product_le, within_facts}
use Rattle.ch_grid.proofs.grid.Grid.points.Goals as goal

pub overflow_mul-points : goal.overflow_mul-points
overflow_mul-points c =
    let n = product_le c.as_slice-all.result.now c.loop-param.param-index c.loop-param.points c.size_of-points.result c.loop-param.invariant c.size_of-points.ensures.value c.loop-param-test.true in
    let w = (within_facts c.args.self.now.params c.args.self.now.within).points in
    let e = ap (λ ps. count (sizes ps)) c.as_slice-all.ensures in
    omega (arith, n, w, e)

pub loop-param-preserved : goal.loop-param-preserved
loop-param-preserved c = product_next c.as_slice-all.result.now c.loop-param.param-index c.loop-param.points c.size_of-points.result c.loop-param.invariant c.size_of-points.ensures.value c.loop-param-test.true

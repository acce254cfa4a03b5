use Rattle.std.proofs.Common.{◌≡◌, ◌∙◌, ◌+◌, ap, min, drop, get_or, arith, [], refl}
use Rattle.std.proofs.lemmas.List.{drop_all}
use Rattle.ch_nest.specs.Arrays.{cells_in, total}
use Rattle.ch_eval.specs.Cells.{most_length}
use Rattle.ch_eval.proofs.Placing.{capped_more}
use Rattle.ch_eval.proofs.eval.capped_total.Goals as goal

pub loop-extents-preserved : goal.loop-extents-preserved
loop-extents-preserved c =
    let k = c.loop-extents.extents-index in
    let cells = c.capped_cells.ensures ∙ ap (λ es. min most_length (cells_in es)) (c.as_slice.ensures ∙ c.extents-item.is) in
    let next : c.min-cells.result ≡ min most_length (c.loop-extents.cells + c.capped_cells.result) = omega (arith, c.min-cells.ensures, c.saturating_add.ensures) in
    record {
      sum = capped_more c.args.temps.now k c.extents-item.result c.loop-extents.cells c.min-cells.result c.capped_cells.result _ c.loop-extents-test.true cells next c.loop-extents.invariant.sum;
      most = omega (arith, next);
    }

pub returns : goal.returns
returns c =
    let rest : total (drop c.loop-extents.extents-index c.args.temps.now) ≡ 0 = ap total (drop_all c.loop-extents.extents-index c.args.temps.now c.loop-extents-test.false) in
    omega (arith, rest, c.loop-extents.invariant.sum, c.loop-extents.invariant.most)

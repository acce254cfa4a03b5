use Rattle.std.proofs.Common.{◌∙◌, ◌+◌, ◌≤◌, ◌^◌, ap, length, nat_le, sum, sym, subst, arith}
use Rattle.std.specs.Bool.{IsTrue}
use Rattle.std.specs.List.{list_all}
use Rattle.std.proofs.lemmas.List.{length_push}
use Rattle.ch_nest.specs.Arrays.{cells_in}
use Rattle.ch_nest.specs.Fills.{filled_cells}
use Rattle.ch_nest.specs.LoopNest.{LoopNest}
use Rattle.ch_nest.specs.Shape.{is_nest}
use Rattle.ch_eval.specs.Cells.{sizes_of}
use Rattle.ch_eval.proofs.Cutting.{parts_joined, parts_sizes}
use Rattle.ch_eval.proofs.Filling.{all_sizes, few_cells, fitting_arrays, has_parts, sizes_next, some_cells, start_fits, start_next, starts_next}
use Rattle.ch_eval.proofs.arrays.Arrays.filled.Goals as goal

pub filled-requires-clause-arrays : goal.filled-requires-clause-arrays
filled-requires-clause-arrays c = fitting_arrays c.args.nest.now c.as_slice-arrays.result.now (subst (λ n. IsTrue (is_nest n)) c.nest.view_is c.nest.invariant) (c.as_slice-arrays.ensures ∙ ap (λ (n : LoopNest). n.arrays) c.nest.view_is)

pub filled-requires-clause-fills : goal.filled-requires-clause-fills
filled-requires-clause-fills c = c.requires ∙ ap (λ (n : LoopNest). length n.arrays) (sym c.nest.view_is) ∙ ap length (sym c.as_slice-arrays.ensures)

pub cells_in-size-requires-clause-few : goal.cells_in-size-requires-clause-few
cells_in-size-requires-clause-few c =
    let fit = fitting_arrays c.args.nest.now c.as_slice-arrays.result.now (subst (λ n. IsTrue (is_nest n)) c.nest.view_is c.nest.invariant) (c.as_slice-arrays.ensures ∙ ap (λ (n : LoopNest). n.arrays) c.nest.view_is) in
    subst (λ es. cells_in es ≤ 2 ^ 40) (sym c.as_slice.ensures) (few_cells c.as_slice-arrays.result.now c.loop-array.array-index c.array-item.result c.loop-array-test.true c.array-item.is fit)

pub cells_in-size-requires-clause-some : goal.cells_in-size-requires-clause-some
cells_in-size-requires-clause-some c =
    let fit = fitting_arrays c.args.nest.now c.as_slice-arrays.result.now (subst (λ n. IsTrue (is_nest n)) c.nest.view_is c.nest.invariant) (c.as_slice-arrays.ensures ∙ ap (λ (n : LoopNest). n.arrays) c.nest.view_is) in
    subst (λ es. IsTrue (list_all (nat_le 1) es)) (sym c.as_slice.ensures) (some_cells c.as_slice-arrays.result.now c.loop-array.array-index c.array-item.result c.loop-array-test.true c.array-item.is fit)

pub overflow_add-start : goal.overflow_add-start
overflow_add-start c =
    let fit = fitting_arrays c.args.nest.now c.as_slice-arrays.result.now (subst (λ n. IsTrue (is_nest n)) c.nest.view_is c.nest.invariant) (c.as_slice-arrays.ensures ∙ ap (λ (n : LoopNest). n.arrays) c.nest.view_is) in
    let size = c.cells_in-size.ensures ∙ ap cells_in c.as_slice.ensures in
    omega (arith, start_fits c.as_slice-arrays.result.now c.loop-array.array-index c.array-item.result c.loop-array-test.true c.array-item.is c.loop-array.start c.cells_in-size.result size c.loop-array.invariant.start fit)

pub loop-array-preserved : goal.loop-array-preserved
loop-array-preserved c =
    let i = c.loop-array.invariant in
    let size = c.cells_in-size.ensures ∙ ap cells_in c.as_slice.ensures in
    record {
      few = omega (arith, c.loop-array-test.true);
      sizes = sizes_next c.as_slice-arrays.result.now c.loop-array.array-index c.array-item.result c.loop-array-test.true c.array-item.is c.loop-array.sizes.items c.push.new.self.items c.cells_in-size.result size c.in_ok-push.ensures.items i.sizes;
      count = ap length c.in_ok-push-2.ensures.items ∙ length_push c.loop-array.starts.items c.loop-array.start ∙ ap (λ n. n + 1) i.count;
      starts =
          starts_next (sizes_of c.as_slice-arrays.result.now) c.loop-array.starts.items c.push-in-loop-array.new.self.items c.loop-array.array-index c.loop-array.start i.count c.in_ok-push-2.ensures.items i.start
          i.starts;
      start = start_next c.as_slice-arrays.result.now c.loop-array.array-index c.array-item.result c.loop-array-test.true c.array-item.is c.loop-array.start c.cells_in-size.result size i.start;
    }

pub invariant_of-result : goal.invariant_of-result
invariant_of-result c =
    let i = c.loop-array.invariant in
    has_parts c.as_slice-arrays.result.now c.loop-array.array-index c.loop-array.sizes.items c.loop-array.starts.items c.into_vec.result.items c.loop-array-test.false i.few i.sizes i.count i.starts
    (ap length c.into_vec.ensures ∙ c.in_ok-cells.ensures.size)

pub returns-clause-value : goal.returns-clause-value
returns-clause-value c =
    let i = c.loop-array.invariant in
    let h =
    has_parts c.as_slice-arrays.result.now c.loop-array.array-index c.loop-array.sizes.items c.loop-array.starts.items c.into_vec.result.items c.loop-array-test.false i.few i.sizes i.count i.starts
    (ap length c.into_vec.ensures ∙ c.in_ok-cells.ensures.size) in
    parts_joined c.loop-array.sizes.items c.into_vec.result.items h.whole ∙ c.into_vec.ensures ∙ c.in_ok-cells.ensures.value
    ∙ ap (λ ds. filled_cells ds c.args.fills.now) (c.as_slice-arrays.ensures ∙ ap (λ (n : LoopNest). n.arrays) c.nest.view_is)

pub returns-clause-sizes : goal.returns-clause-sizes
returns-clause-sizes c =
    let i = c.loop-array.invariant in
    let h =
    has_parts c.as_slice-arrays.result.now c.loop-array.array-index c.loop-array.sizes.items c.loop-array.starts.items c.into_vec.result.items c.loop-array-test.false i.few i.sizes i.count i.starts
    (ap length c.into_vec.ensures ∙ c.in_ok-cells.ensures.size) in
    parts_sizes c.loop-array.sizes.items c.into_vec.result.items h.whole ∙ all_sizes c.as_slice-arrays.result.now c.loop-array.array-index c.loop-array.sizes.items c.loop-array-test.false i.sizes
    ∙ ap sizes_of (c.as_slice-arrays.ensures ∙ ap (λ (n : LoopNest). n.arrays) c.nest.view_is)

use Rattle.std.proofs.Common.{◌∙◌, ap, length, take, arith}
use Rattle.ch_plan.proofs.Forming.{refilled}
use Rattle.ch_eval.specs.Made.{cells_after}
use Rattle.ch_eval.proofs.Cutting.{cut_cells, cut_few, cut_length, cut_sizes, parts_kept}
use Rattle.ch_eval.proofs.arrays.Arrays.worked.Goals as goal

pub invariant_of-self : goal.invariant_of-self
invariant_of-self c = parts_kept c.self.inside.sizes.items c.self.inside.starts.items c.self.inside.cells.items c.extend_from_slice.new.self.items (ap length c.in_err-extend_from_slice.ensures.items) c.self.invariant

pub invariant_of-self-2 : goal.invariant_of-self-2
invariant_of-self-2 c =
    let extended = c.extend_from_slice.new.self in
    let n = c.truncate.ensures.items ∙ ap (take c.len-total.result) (refilled extended.len c.perform-cost.new.cells extended.items extended.ok.0 (c.perform-cost.auto.cells ∙ ap length c.as_mut_slice.ensures.value)) in
    parts_kept c.self.inside.sizes.items c.self.inside.starts.items c.self.inside.cells.items c.truncate.new.self.items
    (cut_length c.self.inside.sizes.items c.self.inside.cells.items c.truncate.new.self.items c.as_mut_slice.result.now c.perform-cost.new.cells c.args.buffers.now c.args.self.now c.len-total.result c.self.invariant.whole
    c.self.view_is (c.len-total.ensures ∙ c.self.inside.cells.ok.0) (c.as_mut_slice.ensures.value ∙ c.in_ok-extend_from_slice.ensures.items) c.perform-cost.auto.cells n)
    c.self.invariant

pub returns-clause-sizes : goal.returns-clause-sizes
returns-clause-sizes c =
    let extended = c.extend_from_slice.new.self in
    let n = c.truncate.ensures.items ∙ ap (take c.len-total.result) (refilled extended.len c.perform-cost.new.cells extended.items extended.ok.0 (c.perform-cost.auto.cells ∙ ap length c.as_mut_slice.ensures.value)) in
    cut_sizes c.self.inside.sizes.items c.self.inside.cells.items c.truncate.new.self.items c.as_mut_slice.result.now c.perform-cost.new.cells c.args.buffers.now c.args.self.now c.len-total.result c.self.invariant.whole
    c.self.view_is (c.len-total.ensures ∙ c.self.inside.cells.ok.0) (c.as_mut_slice.ensures.value ∙ c.in_ok-extend_from_slice.ensures.items) c.perform-cost.auto.cells n

pub returns-clause-cells : goal.returns-clause-cells
returns-clause-cells c =
    let extended = c.extend_from_slice.new.self in
    let n = c.truncate.ensures.items ∙ ap (take c.len-total.result) (refilled extended.len c.perform-cost.new.cells extended.items extended.ok.0 (c.perform-cost.auto.cells ∙ ap length c.as_mut_slice.ensures.value)) in
    cut_cells c.self.inside.sizes.items c.self.inside.cells.items c.truncate.new.self.items c.as_mut_slice.result.now c.perform-cost.new.cells c.args.buffers.now c.args.self.now c.len-total.result c.self.invariant.whole
    c.self.view_is (c.len-total.ensures ∙ c.self.inside.cells.ok.0) (c.as_mut_slice.ensures.value ∙ c.in_ok-extend_from_slice.ensures.items) c.perform-cost.auto.cells n
    (cells_after c.args.ready.now) c.perform-cost.ensures.cells

pub returns-clause-few : goal.returns-clause-few
returns-clause-few c =
    let extended = c.extend_from_slice.new.self in
    let n = c.truncate.ensures.items ∙ ap (take c.len-total.result) (refilled extended.len c.perform-cost.new.cells extended.items extended.ok.0 (c.perform-cost.auto.cells ∙ ap length c.as_mut_slice.ensures.value)) in
    cut_few c.self.inside.sizes.items c.self.inside.cells.items c.truncate.new.self.items c.as_mut_slice.result.now c.perform-cost.new.cells c.args.buffers.now c.args.self.now c.len-total.result c.self.invariant.whole
    c.self.view_is (c.len-total.ensures ∙ c.self.inside.cells.ok.0) (c.as_mut_slice.ensures.value ∙ c.in_ok-extend_from_slice.ensures.items) c.perform-cost.auto.cells n
    (omega (arith, ap length c.as_mut_slice.ensures.value, extended.ok.0, extended.ok.1, extended.small))

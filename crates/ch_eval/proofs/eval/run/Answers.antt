use Rattle.std.proofs.Common.{◌≡◌, ◌∙◌, ℕ, ap, min, pos, replicate, rules, subst}
use Rattle.ch_code.specs.Trace.{unit_trace}
use Rattle.ch_code.specs.UnitParts.{UnitParts}
use Rattle.ch_code.specs.WellFormed.{IsUnit}
use Rattle.ch_cost.specs.Cost.{cost}
use Rattle.ch_nest.specs.Arrays.{total}
use Rattle.ch_eval.specs.Cells.{most_length, unit_extents}
use Rattle.ch_eval.specs.Made.{sum_after}
use Rattle.ch_eval.proofs.Running.{ok_both, ok_with, run_cells, run_cost}
use Rattle.ch_eval.proofs.eval.run.Goals as goal

pub worked-requires : goal.worked-requires
worked-requires c = c.in_ok-ready.ensures.walk

pub returns-clause-cells : goal.returns-clause-cells
returns-clause-cells c =
    let zeros =
    c.as_slice-2.ensures.value ∙ c.in_ok-buffers.ensures.items_if_clones_equal (λ y h. search rules)
    ∙ ap (λ (n : ℕ). replicate n (pos 0)) (c.capped_total.ensures ∙ ap (λ ts. min most_length (total ts)) (c.as_slice.ensures ∙ ap (λ (u : UnitParts). u.temps) c.unit.view_is)) in
    ok_both c.worked.result
    (λ few h. run_cells c.args.unit.now c.args.machine.now c.in_ok-ready.ready c.args.arrays.now c.worked.new.self c.as_slice-2.result.now (subst IsUnit c.unit.view_is c.unit.invariant) c.in_ok-ready.ensures c.requires.inside
    c.requires.sizes zeros few h)
    c.worked.ensures.few c.worked.ensures.cells

pub returns-clause-cost : goal.returns-clause-cost
returns-clause-cost c =
    let zeros =
    c.as_slice-2.ensures.value ∙ c.in_ok-buffers.ensures.items_if_clones_equal (λ y h. search rules)
    ∙ ap (λ (n : ℕ). replicate n (pos 0)) (c.capped_total.ensures ∙ ap (λ ts. min most_length (total ts)) (c.as_slice.ensures ∙ ap (λ (u : UnitParts). u.temps) c.unit.view_is)) in
    ok_with c.worked.result (λ n. n ≡ sum_after c.in_ok-ready.ready) (λ n. n ≡ cost c.args.machine.now (unit_extents c.args.unit.now) (unit_trace c.args.unit.now))
    (λ n few h. run_cost c.args.unit.now c.args.machine.now c.in_ok-ready.ready c.args.arrays.now c.worked.new.self c.as_slice-2.result.now (subst IsUnit c.unit.view_is c.unit.invariant) c.in_ok-ready.ensures c.requires.inside
    c.requires.sizes zeros few n h)
    c.worked.ensures.few c.worked.ensures.cost

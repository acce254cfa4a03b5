use Rattle.std.proofs.Common.{◌≡◌, ◌∙◌, ◌++◌, ap, ap₂, subst, sym, IfOk}
use Rattle.ch_code.specs.UnitParts.{UnitParts, unit_of}
use Rattle.ch_nest.specs.Arrays.{extents_of}
use Rattle.ch_plan.specs.Ready.{AreBases, extents_in}
use Rattle.ch_eval.specs.Cells.{unit_extents}
use Rattle.ch_eval.specs.Made.{IsPlan, IsReadyFor}
use Rattle.ch_eval.proofs.Placing.{unit_fits}
use Rattle.ch_eval.proofs.ready.make_ready.Goals as goal

pub plan_of-requires-clause-fits : goal.plan_of-requires-clause-fits
plan_of-requires-clause-fits c =
    let u : UnitParts = unit_of c.unit.inside.root c.unit.inside.arrays c.unit.inside.temps in
    let e : extents_in c.as_slice-3.result.now ≡ unit_extents u =
    ap extents_in c.as_slice-3.ensures ∙ c.in_ok-placed.ensures.extents ∙ ap₂ (λ ds ts. extents_of ds ++ ts) c.as_slice.ensures c.as_slice-2.ensures in
    unit_fits u c.as_slice-3.result.now e c.unit.invariant

pub plan_of-requires-clause-bases : goal.plan_of-requires-clause-bases
plan_of-requires-clause-bases c = subst AreBases (sym c.as_slice-3.ensures) c.in_ok-placed.ensures.bases

pub returns : goal.returns
returns c =
    let u : UnitParts = unit_of c.unit.inside.root c.unit.inside.arrays c.unit.inside.temps in
    let e : extents_in c.as_slice-3.result.now ≡ unit_extents u =
    ap extents_in c.as_slice-3.ensures ∙ c.in_ok-placed.ensures.extents ∙ ap₂ (λ ds ts. extents_of ds ++ ts) c.as_slice.ensures c.as_slice-2.ensures in
    let planned : IsPlan (unit_extents u) 0 c.plan_of.new.needs c.unit.inside.root c.in_ok-plan.plan =
    subst (λ es. IsPlan es 0 c.plan_of.new.needs c.unit.inside.root c.in_ok-plan.plan) e c.in_ok-plan.ensures.plan in
    subst (λ (v : UnitParts). IfOk c.with_plan.result (IsReadyFor (unit_extents v) v.root c.args.machine.now)) c.unit.view_is (c.with_plan.ensures (unit_extents u) u.root planned)

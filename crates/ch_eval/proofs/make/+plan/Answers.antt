use Rattle.std.proofs.Common.{◌≡◌, ◌∙◌, ◌≤◌, ap₂, arith, length, rules, subst, suc, sym, take}
use Rattle.std.specs.Bool.{IsTrue}
use Rattle.std.specs.List.{list_all}
use Rattle.std.proofs.lemmas.List.{take_all}
use Rattle.std.proofs.lemmas.Result.{IfOk-weaker}
use Rattle.ch_code.specs.declared.code.Code.TheVariants as code
use Rattle.ch_code.specs.declared.code.Code.TheViews.{the_lemmas}
use Rattle.ch_code.specs.WellFormed.{fits}
use Rattle.ch_plan.specs.declared.plan.Plan.TheVariants as plan
use Rattle.ch_plan.specs.Ready.{extents_in}
use Rattle.ch_eval.specs.Made.{ArePlans, IsPlan}
use Rattle.ch_eval.proofs.Fitting.{fits_guard, fits_leaf, fits_loop, fits_parts}
use Rattle.ch_eval.proofs.Pairing.{pairs_more}
use Rattle.ch_eval.proofs.Planning.{grows_then, guard_made, leaf_made, loop_made, plans_more, seq_planned}
use Rattle.ch_eval.proofs.Running.{ok_pair, ok_with}
use Rattle.ch_eval.proofs.make.+plan.Goals as goal

pub plans_of-loop-part-preserved : goal.plans_of-loop-part-preserved
plans_of-loop-part-preserved t c =
    let extents = extents_in c.args.arrays.now in
    let i = c.loop-part.invariant in
    record {
      grows = grows_then c.args.needs.now c.loop-part.needs c.plan_of.new.needs i.grows c.in_ok-plan.ensures.grows;
      plans =
          pairs_more (IsPlan extents c.args.around c.plan_of.new.needs) c.args.parts.now c.loop-part.part-index c.part-item.result c.loop-part.plans c.push.new.self c.in_ok-plan.plan c.loop-part-test.true
          c.part-item.is c.in_ok-plan.ensures.plan c.in_ok-push.ensures.ok
          (plans_more extents c.args.around c.loop-part.needs c.plan_of.new.needs (take c.loop-part.part-index c.args.parts.now) c.loop-part.plans c.in_ok-plan.ensures.grows i.plans);
    }

pub plans_of-returns-clause-plan : goal.plans_of-returns-clause-plan
plans_of-returns-clause-plan t c =
    subst (λ cs. ArePlans (extents_in c.args.arrays.now) c.args.around c.loop-part.needs cs c.loop-part.plans) (take_all c.loop-part.part-index c.args.parts.now c.loop-part-test.false)
    c.loop-part.invariant.plans

pub plan_of-plans_of-requires : goal.plan_of-plans_of-requires
plan_of-plans_of-requires t c = (
  rw c.as_slice.ensures (search (rules, the_lemmas)),
  (
    c.requires.bases,
    subst (λ parts. IsTrue (list_all (λ part. fits (length c.args.arrays.now) part c.args.around) parts)) (sym c.as_slice.ensures)
        (fits_parts (length c.args.arrays.now) c.args.around c.args.code.now c.in-Seq.parts c.in-Seq.is c.requires.fits),
  ),
)

pub plan_of-leaf_of-requires-clause-fits : goal.plan_of-leaf_of-requires-clause-fits
plan_of-leaf_of-requires-clause-fits t c =
    let is = c.in-Leaf.is ∙ ap₂ (λ os ps. code.Leaf c.in-Leaf.label c.in-Leaf.body os ps) (sym c.as_slice-origin.ensures) (sym c.as_slice-in-Leaf.ensures) in
    fits_leaf (length c.args.arrays.now) c.args.around c.args.code.now c.in-Leaf.label c.in-Leaf.body c.as_slice-origin.result.now c.as_slice-in-Leaf.result.now is c.requires.fits

pub plan_of-returns-in_ok-plans-in-Seq-clause-plan : goal.plan_of-returns-in_ok-plans-in-Seq-clause-plan
plan_of-returns-in_ok-plans-in-Seq-clause-plan t c =
    seq_planned (extents_in c.args.arrays.now) c.args.around c.plans_of.new.needs c.in-Seq.parts c.in_ok-plans-in-Seq.plans c.args.code.now c.in-Seq.is
    (subst (λ cs. ArePlans (extents_in c.args.arrays.now) c.args.around c.plans_of.new.needs cs c.in_ok-plans-in-Seq.plans) c.as_slice.ensures c.in_ok-plans-in-Seq.ensures.plan)

pub plan_of-returns-in_ok-inner-in-Loop-clause-plan : goal.plan_of-returns-in_ok-inner-in-Loop-clause-plan
plan_of-returns-in_ok-inner-in-Loop-clause-plan t c =
    let extents = extents_in c.args.arrays.now in
    let lows = c.as_slice-in-Loop.result.now in
    let highs = c.as_slice-in-Loop-2.result.now in
    let needs = c.plan_of.new.needs in
    let p = c.in_ok-inner-in-Loop.inner in
    let is = c.in-Loop.is ∙ ap₂ (λ ls hs. code.Loop c.in-Loop.level ls hs c.in-Loop.inner) (sym c.as_slice-in-Loop.ensures) (sym c.as_slice-in-Loop-2.ensures) in
    let fit = fits_loop (length c.args.arrays.now) c.args.around c.args.code.now c.in-Loop.level lows highs c.in-Loop.inner is c.requires.fits in
    let deeper : IsPlan extents c.in-Loop.level needs c.in-Loop.inner p = subst (λ z. IsPlan extents c.in-Loop.level needs z p) c.get.ensures c.in_ok-inner-in-Loop.ensures.plan in
    let planned : IsPlan extents (suc c.args.around) needs c.in-Loop.inner p = subst (λ n. IsPlan extents n needs c.in-Loop.inner p) fit.level deeper in
    IfOk-weaker c.loop_of.result _ _
    (λ made is_made. loop_made extents c.args.around needs lows highs c.in-Loop.inner p c.args.code.now c.in-Loop.level made is fit.lows fit.highs
    (omega (arith, fit.level, c.in_ok-inner-in-Loop.ensures.grows.deep, c.max-needs.ensures)) planned is_made)
    c.loop_of.ensures

pub plan_of-returns-in_ok-inner-in-Guard-clause-plan : goal.plan_of-returns-in_ok-inner-in-Guard-clause-plan
plan_of-returns-in_ok-inner-in-Guard-clause-plan t c =
    let extents = extents_in c.args.arrays.now in
    let old = c.plan_of-in-Guard.new.needs in
    let new = c.guard_of.new.needs in
    let p = c.in_ok-inner-in-Guard.inner in
    let planned : IsPlan extents c.args.around old c.in-Guard.inner p = subst (λ z. IsPlan extents c.args.around old z p) c.get-in-Guard.ensures c.in_ok-inner-in-Guard.ensures.plan in
    ok_with c.guard_of.result (λ made. made ≡ plan.Guard c.in-Guard.system c.args.around p) (IsPlan extents c.args.around new c.args.code.now)
    (λ made both is_made. guard_made extents c.args.around old new c.in-Guard.system c.in-Guard.inner p c.args.code.now made c.in-Guard.is
    (fits_guard (length c.args.arrays.now) c.args.around c.args.code.now c.in-Guard.system c.in-Guard.inner c.in-Guard.is c.requires.fits).0 c.guard_of.ensures.grows both planned is_made)
    (ok_pair (c.in-Guard.system.vars ≤ new.vars) (length c.in-Guard.system.rows ≤ new.rows) c.guard_of.result c.guard_of.ensures.vars c.guard_of.ensures.rows) c.guard_of.ensures.plan

pub plan_of-returns-in-Leaf-clause-plan : goal.plan_of-returns-in-Leaf-clause-plan
plan_of-returns-in-Leaf-clause-plan t c =
    let is = c.in-Leaf.is ∙ ap₂ (λ os ps. code.Leaf c.in-Leaf.label c.in-Leaf.body os ps) (sym c.as_slice-origin.ensures) (sym c.as_slice-in-Leaf.ensures) in
    IfOk-weaker c.leaf_of.result _ _
    (λ made is_made. leaf_made (extents_in c.args.arrays.now) c.args.around c.leaf_of.new.needs c.args.code.now c.in-Leaf.label c.in-Leaf.body c.as_slice-origin.result.now c.as_slice-in-Leaf.result.now made is is_made)
    c.leaf_of.ensures.plan

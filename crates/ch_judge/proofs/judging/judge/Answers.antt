use Rattle.std.proofs.Common.{ℕ, ap, subst, sym, ◌∙◌, ◌++◌, List}
use Rattle.ch_nest.specs.Arrays.{extents_of}
use Rattle.ch_nest.specs.declared.nest.ArrayDecl.{ArrayDecl}
use Rattle.ch_code.specs.Trace.{unit_trace}
use Rattle.ch_timed.specs.Flat.{StaysInside}
use Rattle.ch_judge.proofs.Costs.{judged_is, refused_too}
use Rattle.ch_judge.specs.Judged.{judged_at, program_cost}
use Rattle.ch_variant.specs.Applied.{IsAnswer}
use Rattle.ch_variant.specs.Variants.{VariantParts, applied_at, origin_at}
use Rattle.ch_variant.proofs.Stepwise.{at_exit}
use Rattle.ch_session.specs.Making.{Making}
use Rattle.ch_judge.proofs.judging.judge.Goals as goal

pub unit_cost-requires-clause-arrays : goal.unit_cost-requires-clause-arrays
unit_cost-requires-clause-arrays c =
    ap (λ u. u.arrays) c.unit.ensures ∙ c.known.ensures.keeps.arrays ∙ ap (λ (k : Making). k.nest.arrays) c.in_ok-variant.ensures.made

pub unit_cost-requires-clause-inside : goal.unit_cost-requires-clause-inside
unit_cost-requires-clause-inside c =
    let u = c.in_ok-variant.variant.unit in
    rw c.unit.ensures
    (subst (λ (ds : List ArrayDecl). StaysInside (extents_of ds ++ u.temps) (unit_trace u)) (sym c.known.ensures.keeps.arrays) c.known.ensures.inside)

pub returns : goal.returns
returns c =
    let o = origin_at c.args.subject.now.recipe.now c.args.grid.now.params c.args.point.now in
    judged_is c.args.subject.now.machine.now c.args.subject.now.nest.now o 0 c.in_ok-variant.variant c.in_ok-cost.cost
    c.in_ok-variant.ensures.made c.known.ensures.keeps (rw c.unit.ensures at c.in_ok-cost.ensures)

pub returns-in_err-variant : goal.returns-in_err-variant
returns-in_err-variant c =
    let o = origin_at c.args.subject.now.recipe.now c.args.grid.now.params c.args.point.now in
    at_exit ℕ (λ r. IsAnswer r (judged_at c.args.subject.now.machine.now c.args.subject.now.nest.now o)) c.from_residual.result c.in_err-variant.field-0.0 c.from_residual.ensures.1
    (refused_too VariantParts ℕ (program_cost c.args.subject.now.machine.now c.args.subject.now.nest.now) c.in_err-variant.field-0.0 (applied_at c.args.subject.now.nest.now o) c.in_err-variant.ensures.answer)

use Rattle.ch_judge.proofs.Costs.{same_cost, told_is, unit_inside}
use Rattle.ch_judge.specs.declared.judging.Shown.{Shown}
use Rattle.ch_space.specs.Listed.{Listed}
use Rattle.ch_variant.specs.Applied.{applied}
use Rattle.ch_variant.specs.Refusals.{PairIsLeast}
use Rattle.ch_variant.specs.Variants.{Refuses}
use Rattle.ch_variant.proofs.Making.{goes_on, least_too, refuses_too}
use Rattle.ch_variant.proofs.Stepwise.{at_exit}
use Rattle.ch_judge.proofs.judging.show.Goals as goal

pub unit_cost-requires-clause-inside : goal.unit_cost-requires-clause-inside
unit_cost-requires-clause-inside c =
    unit_inside c.args.subject.now.nest.now c.in_ok-space.space c.in_ok-unit.unit c.requires.subject.sound c.in_ok-space.ensures.keeps
    c.in_ok-unit.ensures.trace c.in_ok-unit.ensures.arrays c.in_ok-unit.ensures.temps

pub returns-in_err-space-clause-refusal : goal.returns-in_err-space-clause-refusal
returns-in_err-space-clause-refusal c =
    at_exit Shown (λ r. Refuses r (applied c.args.subject.now.nest.now c.args.subject.now.recipe.now.commands c.args.values.now)) c.from_residual.result c.in_err-space.field-0.0 c.from_residual.ensures.1
    (refuses_too Shown c.in_err-space.field-0.0 (applied c.args.subject.now.nest.now c.args.subject.now.recipe.now.commands c.args.values.now) c.in_err-space.ensures.answer)

pub returns-in_err-space-clause-least : goal.returns-in_err-space-clause-least
returns-in_err-space-clause-least c =
    at_exit Shown (PairIsLeast c.args.subject.now.nest.now c.args.subject.now.recipe.now.commands c.args.values.now {X = Shown}) c.from_residual.result c.in_err-space.field-0.0 c.from_residual.ensures.1
    (least_too Listed Shown c.args.subject.now.nest.now c.args.subject.now.recipe.now.commands c.args.values.now c.in_err-space.field-0.0 c.in_err-space.ensures.least)

pub returns-clause-refusal : goal.returns-clause-refusal
returns-clause-refusal c =
    goes_on {X = Unit {0}} tt (applied c.args.subject.now.nest.now c.args.subject.now.recipe.now.commands c.args.values.now) c.in_ok-space.space c.in_ok-space.ensures.answer

pub returns-clause-told : goal.returns-clause-told
returns-clause-told c =
    told_is c.args.subject.now.machine.now c.args.subject.now.nest.now c.in_ok-space.space (record { pieces = c.pieces.result; instances = c.count.result; cost = c.in_ok-cost.cost })
    c.pieces.ensures c.count.ensures
    (same_cost c.args.subject.now.machine.now c.args.subject.now.nest.now c.in_ok-space.space c.in_ok-unit.unit c.in_ok-cost.cost c.in_ok-cost.ensures
    c.in_ok-unit.ensures.trace c.in_ok-unit.ensures.arrays c.in_ok-unit.ensures.temps)

pub returns-clause-code : goal.returns-clause-code
returns-clause-code c = record {
  formed = c.known_unit.ensures;
  trace = c.in_ok-unit.ensures.trace;
  arrays = c.in_ok-unit.ensures.arrays;
  temps = c.in_ok-unit.ensures.temps;
}

use Rattle.ch_space.specs.Listed.{Listed}
use Rattle.ch_variant.specs.Points.{used_values}
use Rattle.ch_variant.specs.Refusals.{PairIsLeast}
use Rattle.ch_variant.specs.Variants.{Refuses, VariantParts, applied_at, origin_at}
use Rattle.ch_variant.proofs.Making.{built, goes_on, least_too, made_is, refuses_too}
use Rattle.ch_variant.proofs.Stepwise.{at_exit}
use Rattle.ch_variant.proofs.building.build.Goals as goal

pub invariant_of-result : goal.invariant_of-result
invariant_of-result c =
    built c.args.subject c.of.result.value c.args.nest.now c.in_ok-source.source (origin_at c.args.recipe.now c.args.grid.now.params c.args.point.now) c.in_ok-unit.unit c.in_ok-space.space
    c.of.ensures c.in_ok-source.ensures c.requires.sound c.in_ok-space.ensures.answer c.in_ok-space.ensures.well_formed c.in_ok-space.ensures.keeps
    c.in_ok-unit.ensures.trace c.in_ok-unit.ensures.arrays c.in_ok-unit.ensures.temps

pub returns-in_err-space-clause-answer : goal.returns-in_err-space-clause-answer
returns-in_err-space-clause-answer c =
    at_exit VariantParts (λ r. Refuses r (applied_at c.args.nest.now (origin_at c.args.recipe.now c.args.grid.now.params c.args.point.now))) c.from_residual.result c.in_err-space.field-0.0 c.from_residual.ensures.1
    (refuses_too VariantParts c.in_err-space.field-0.0 (applied_at c.args.nest.now (origin_at c.args.recipe.now c.args.grid.now.params c.args.point.now)) c.in_err-space.ensures.answer)

pub returns-in_err-space-clause-least : goal.returns-in_err-space-clause-least
returns-in_err-space-clause-least c =
    at_exit VariantParts (PairIsLeast c.args.nest.now c.args.recipe.now.commands (used_values c.args.recipe.now c.args.grid.now.params c.args.point.now) {X = VariantParts}) c.from_residual.result c.in_err-space.field-0.0 c.from_residual.ensures.1
    (least_too Listed VariantParts c.args.nest.now c.args.recipe.now.commands (used_values c.args.recipe.now c.args.grid.now.params c.args.point.now) c.in_err-space.field-0.0 c.in_err-space.ensures.least)

pub returns-clause-answer : goal.returns-clause-answer
returns-clause-answer c =
    goes_on {X = Unit {0}} tt (applied_at c.args.nest.now (origin_at c.args.recipe.now c.args.grid.now.params c.args.point.now)) c.in_ok-space.space c.in_ok-space.ensures.answer

pub returns-clause-made : goal.returns-clause-made
returns-clause-made c =
    made_is c.args.subject c.of.result.value c.args.nest.now c.in_ok-source.source (origin_at c.args.recipe.now c.args.grid.now.params c.args.point.now) c.of.ensures c.in_ok-source.ensures

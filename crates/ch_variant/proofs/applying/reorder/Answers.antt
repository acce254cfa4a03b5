use Rattle.std.proofs.Common.{◌∙◌, sym, subst, refl, Err}
use Rattle.ch_space.specs.Listed.{Listed}
use Rattle.ch_variant.specs.Applied.{IsAnswer, one}
use Rattle.ch_variant.specs.Arguments.{scope}
use Rattle.ch_variant.specs.Refusals.{StepIsLeast}
use Rattle.ch_variant.specs.declared.error.ApplyError.{ApplyError}
use Rattle.ch_variant.proofs.Legality.{behind_of, given_of, names_no_pair, pair_is_least, step_goes_on, step_keeps, step_refused, step_reverses}
use Rattle.ch_variant.proofs.applying.reorder.Goals as goal

pub returns-in-None-clause-answer : goal.returns-in-None-clause-answer
returns-in-None-clause-answer c =
    step_goes_on (scope c.args.setting.now.nest.now c.args.setting.now.values.now) c.args.turn.sums c.args.turn.step c.args.command.now c.args.space.now c.in-Ok.new
    (given_of (scope c.args.setting.now.nest.now c.args.setting.now.values.now) c.args.command.now c.args.space.now c.in-Ok.new c.requires.orders c.requires.moves c.in-Ok.ensures c.known.ensures c.known-2.ensures)
    (sym c.in_ok-turned.ensures ∙ c.in-None.is)

pub returns-in-None-clause-keeps : goal.returns-in-None-clause-keeps
returns-in-None-clause-keeps c =
    step_keeps (scope c.args.setting.now.nest.now c.args.setting.now.values.now) c.args.turn.sums c.args.command.now c.args.space.now c.in-Ok.new
    (given_of (scope c.args.setting.now.nest.now c.args.setting.now.values.now) c.args.command.now c.args.space.now c.in-Ok.new c.requires.orders c.requires.moves c.in-Ok.ensures c.known.ensures c.known-2.ensures)
    (sym c.in_ok-turned.ensures ∙ c.in-None.is)

pub returns-in-Err-clause-answer : goal.returns-in-Err-clause-answer
returns-in-Err-clause-answer c =
    subst (λ (e : ApplyError). IsAnswer {X = Listed} (Err e) (one (scope c.args.setting.now.nest.now c.args.setting.now.values.now) c.args.turn.sums c.args.turn.step c.args.command.now c.args.space.now)) (sym c.forbidden.ensures)
    (step_refused (scope c.args.setting.now.nest.now c.args.setting.now.values.now) c.args.turn.sums c.args.turn.step c.args.command.now c.args.space.now c.in-Err.error c.requires.moves c.in-Err.ensures.first)

pub returns-in-Err-clause-least : goal.returns-in-Err-clause-least
returns-in-Err-clause-least c =
    subst (StepIsLeast (scope c.args.setting.now.nest.now c.args.setting.now.values.now) c.args.turn.sums c.args.turn.step c.args.command.now c.args.space.now) (sym c.forbidden.ensures)
    (names_no_pair (scope c.args.setting.now.nest.now c.args.setting.now.values.now) c.args.turn.sums c.args.turn.step c.args.command.now c.args.space.now c.in-Err.error)

pub returns-in-Some-clause-answer : goal.returns-in-Some-clause-answer
returns-in-Some-clause-answer c =
    subst (λ (e : ApplyError). IsAnswer {X = Listed} (Err e) (one (scope c.args.setting.now.nest.now c.args.setting.now.values.now) c.args.turn.sums c.args.turn.step c.args.command.now c.args.space.now)) (sym c.illegal.ensures)
    (step_reverses (scope c.args.setting.now.nest.now c.args.setting.now.values.now) c.args.turn.sums c.args.turn.step c.args.command.now c.args.space.now c.in-Ok.new c.in-Some.pair
    (given_of (scope c.args.setting.now.nest.now c.args.setting.now.values.now) c.args.command.now c.args.space.now c.in-Ok.new c.requires.orders c.requires.moves c.in-Ok.ensures c.known.ensures c.known-2.ensures)
    (sym c.in_ok-turned.ensures ∙ c.in-Some.is))

pub returns-in-Some-clause-least : goal.returns-in-Some-clause-least
returns-in-Some-clause-least c =
    subst (StepIsLeast (scope c.args.setting.now.nest.now c.args.setting.now.values.now) c.args.turn.sums c.args.turn.step c.args.command.now c.args.space.now) (sym c.illegal.ensures) (
      refl,
      pair_is_least (scope c.args.setting.now.nest.now c.args.setting.now.values.now) c.args.turn.sums c.args.command.now c.args.space.now c.in-Ok.new c.in-Some.pair
          (given_of (scope c.args.setting.now.nest.now c.args.setting.now.values.now) c.args.command.now c.args.space.now c.in-Ok.new c.requires.orders c.requires.moves c.in-Ok.ensures c.known.ensures c.known-2.ensures)
          (sym c.in_ok-turned.ensures ∙ c.in-Some.is),
    )

pub returns-in-None-clause-parts : goal.returns-in-None-clause-parts
returns-in-None-clause-parts c =
    behind_of (scope c.args.setting.now.nest.now c.args.setting.now.values.now) c.args.command.now c.args.space.now c.in-Ok.new c.in-Ok.ensures.follows

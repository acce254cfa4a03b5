use Rattle.ch_judge.proofs.Costs.{refused_too}
use Rattle.ch_judge.specs.Judged.{told_of}
use Rattle.ch_judge.specs.declared.judging.Shown.{Shown}
use Rattle.ch_judge.specs.declared.judging.Told.{Told}
use Rattle.ch_variant.specs.Applied.{IsAnswer, applied}
use Rattle.ch_variant.specs.Judgements.{judged}
use Rattle.ch_variant.specs.Refusals.{PairIsLeast}
use Rattle.ch_variant.proofs.Making.{least_too, measured_is}
use Rattle.ch_variant.proofs.Stepwise.{at_exit}
use Rattle.ch_judge.proofs.judging.tell.Goals as goal

pub returns-in_err-shown-clause-answer : goal.returns-in_err-shown-clause-answer
returns-in_err-shown-clause-answer c =
    at_exit Told (λ r. IsAnswer r (judged (told_of c.args.subject.now.machine.now c.args.subject.now.nest.now) c.args.subject.now.nest.now c.args.subject.now.recipe.now.commands c.args.values.now))
    c.from_residual.result c.in_err-shown.field-0.0 c.from_residual.ensures.1
    (refused_too Shown Told (told_of c.args.subject.now.machine.now c.args.subject.now.nest.now) c.in_err-shown.field-0.0
    (applied c.args.subject.now.nest.now c.args.subject.now.recipe.now.commands c.args.values.now) c.in_err-shown.ensures.refusal)

pub returns-in_err-shown-clause-least : goal.returns-in_err-shown-clause-least
returns-in_err-shown-clause-least c =
    at_exit Told (PairIsLeast c.args.subject.now.nest.now c.args.subject.now.recipe.now.commands c.args.values.now {X = Told}) c.from_residual.result c.in_err-shown.field-0.0 c.from_residual.ensures.1
    (least_too Shown Told c.args.subject.now.nest.now c.args.subject.now.recipe.now.commands c.args.values.now c.in_err-shown.field-0.0 c.in_err-shown.ensures.least)

pub returns-clause-answer : goal.returns-clause-answer
returns-clause-answer c =
    measured_is (told_of c.args.subject.now.machine.now c.args.subject.now.nest.now) (applied c.args.subject.now.nest.now c.args.subject.now.recipe.now.commands c.args.values.now)
    c.in_ok-shown.shown.space _ c.in_ok-shown.ensures.program c.in_ok-shown.ensures.told

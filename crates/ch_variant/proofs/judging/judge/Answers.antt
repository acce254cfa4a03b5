use Rattle.ch_variant.specs.Applied.{IsAnswer, applied}
use Rattle.ch_variant.specs.Judgements.{judged, sizes_of}
use Rattle.ch_variant.specs.declared.judging.Judgement.{Judgement}
use Rattle.ch_variant.proofs.Making.{measured_is, measured_too, sizes_are}
use Rattle.ch_variant.proofs.Stepwise.{at_exit}
use Rattle.ch_variant.proofs.judging.judge.Goals as goal

pub returns : goal.returns
returns c =
    measured_is sizes_of (applied c.args.nest.now c.args.recipe.now.commands c.args.values.now) c.in_ok-space.space _ c.in_ok-space.ensures.answer
    (sizes_are c.in_ok-space.space c.pieces.result c.count.result c.pieces.ensures c.count.ensures)

pub returns-in_err-space : goal.returns-in_err-space
returns-in_err-space c =
    at_exit Judgement (λ r. IsAnswer r (judged sizes_of c.args.nest.now c.args.recipe.now.commands c.args.values.now)) c.from_residual.result c.in_err-space.field-0.0 c.from_residual.ensures.1
    (measured_too sizes_of c.in_err-space.field-0.0 (applied c.args.nest.now c.args.recipe.now.commands c.args.values.now) c.in_err-space.ensures.answer)

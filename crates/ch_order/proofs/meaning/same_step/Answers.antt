use Rattle.std.proofs.Common.{◌∙◌, sym, ap}
use Rattle.std.proofs.lemmas.Bool.{both_ways}
use Rattle.ch_order.proofs.Steps.{step_by, same_identity_is, same_identity_of}
use Rattle.ch_order.proofs.meaning.same_step.Goals as goal

pub returns-then-same_identity : goal.returns-then-same_identity
returns-then-same_identity c = (
  λ h. step_by c.args.a.now c.args.b.now (same_identity_is _ _ (sym c.same_identity.ensures ∙ c.if-same_identity.true)) (c.same_body.ensures.0 h),
  λ e. c.same_body.ensures.1 (ap (λ s. s.body) e),
)

pub returns-else-same_identity : goal.returns-else-same_identity
returns-else-same_identity c = (
  λ h. absurd (both_ways _ c.if-same_identity.false h),
  λ e. c.same_identity.ensures ∙ same_identity_of c.args.a.now c.args.b.now e,
)

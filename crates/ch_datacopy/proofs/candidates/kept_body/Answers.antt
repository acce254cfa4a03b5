use Rattle.std.proofs.Common.{◌≡◌, ap, sym, ◌∙◌}
use Rattle.std.specs.Prelude.{if◌then◌else◌}
use Rattle.std.proofs.lemmas.Result.{IfOk-weaker}
use Rattle.ch_copied.specs.Bodies.{redirected}
use Rattle.ch_nest.specs.declared.nest.Body.{Body}
use Rattle.ch_datacopy.proofs.candidates.kept_body.Goals as goal

pub returns-then-is_ours : goal.returns-then-is_ours
returns-then-is_ours c = λ p t.
    IfOk-weaker c.redirected.result (λ (b : Body). b ≡ redirected p c.args.body.now) (λ b. b ≡ (if c.args.is_ours then redirected p c.args.body.now else c.args.body.now))
    (λ b e. e ∙ sym (ap (λ t. if t then redirected p c.args.body.now else c.args.body.now) c.if-is_ours.true)) (c.redirected.ensures p t)

pub returns-else-is_ours : goal.returns-else-is_ours
returns-else-is_ours c = λ p t.
    IfOk-weaker c.copied_body.result (λ (b : Body). b ≡ c.args.body.now) (λ b. b ≡ (if c.args.is_ours then redirected p c.args.body.now else c.args.body.now))
    (λ b e. e ∙ sym (ap (λ t. if t then redirected p c.args.body.now else c.args.body.now) c.if-is_ours.false)) c.copied_body.ensures

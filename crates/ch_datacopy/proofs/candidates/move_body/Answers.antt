use Rattle.std.proofs.Common.{◌≡◌}
use Rattle.std.proofs.lemmas.Result.{IfOk-weaker}
use Rattle.ch_copied.specs.Bodies.{in_body, out_body}
use Rattle.ch_datacopy.specs.Works.{move_body}
use Rattle.ch_nest.specs.declared.nest.Body.{Body}
use Rattle.ch_datacopy.proofs.Redirects.{in_move, out_move}
use Rattle.ch_datacopy.proofs.candidates.move_body.Goals as goal

pub returns-then-k-work : goal.returns-then-k-work
returns-then-k-work c = λ p t e l.
    IfOk-weaker c.in_body.result (λ (b : Body). b ≡ in_body p) (λ b. b ≡ move_body p c.args.k) (λ b h. in_move p c.args.k c.args.work.ins b l c.if-k-work.true h) (c.in_body.ensures p t e)

pub returns-else-k-work : goal.returns-else-k-work
returns-else-k-work c = λ p t e l.
    IfOk-weaker c.out_body.result (λ (b : Body). b ≡ out_body p) (λ b. b ≡ move_body p c.args.k) (λ b h. out_move p c.args.k c.args.work.ins b l c.if-k-work.false h) (c.out_body.ensures p t e)

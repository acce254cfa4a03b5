use Rattle.std.proofs.Common.{◌≡◌, ap, ◌∙◌}
use Rattle.std.proofs.lemmas.Result.{IfOk-weaker}
use Rattle.ch_copied.specs.Bodies.{redirected_access, wrapped}
use Rattle.ch_nest.specs.declared.nest.Access.{Access}
use Rattle.ch_datacopy.proofs.Redirects.{buffer_access, other_access}
use Rattle.ch_datacopy.proofs.redirect.redirected_access.Goals as goal

pub returns-then-access-target : goal.returns-then-access-target
returns-then-access-target c = λ p t.
    IfOk-weaker c.copied_access.result (λ (new : Access). new ≡ c.args.access.now) (λ new. new ≡ redirected_access p c.args.access.now)
    (λ new e. other_access p c.args.target c.args.extents.now c.args.access.now new t c.if-access-target.true e) c.copied_access.ensures

pub returns : goal.returns
returns c = λ p t.
    buffer_access p c.args.target c.args.extents.now c.args.access.now c.in_ok-wrapped.field-0 t c.if-access-target.false
    (c.in_ok-wrapped.ensures ∙ ap (λ ss. wrapped ss c.args.extents.now) c.as_slice.ensures)

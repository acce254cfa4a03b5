use Rattle.std.proofs.Common.{subst}
use Rattle.ch_codegen.specs.Bounds.{IsSaid, Thins}
use Rattle.ch_codegen.proofs.Said.{adds_said, adds_thin}
use Rattle.ch_codegen.proofs.tight.with_simple.Goals as goal

pub returns-then-is_said : goal.returns-then-is_said
returns-then-is_said c =
    adds_said c.args.is_low c.args.bounds c.args.bound (subst (λ bs. IsSaid c.args.is_low bs c.args.bound) c.as_slice.ensures (c.is_said.ensures c.if-is_said.true))

pub returns : goal.returns
returns c =
    adds_thin c.args.is_low c.args.bounds c.in_ok-kept.kept c.push.new.self c.args.bound
    (subst (λ bs. Thins c.args.is_low c.args.bound bs c.in_ok-kept.kept) c.as_slice-2.ensures c.in_ok-kept.ensures) c.in_ok-push.ensures.ok

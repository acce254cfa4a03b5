use Rattle.std.proofs.lemmas.Result.{IfOk-weaker}
use Rattle.ch_codegen.proofs.Said.{adds_replaced}
use Rattle.ch_codegen.proofs.bounds.with_bound.Goals as goal

pub returns : goal.returns
returns c = IfOk-weaker c.with_simple.result _ _ (λ all a. adds_replaced c.args.is_low c.args.bounds all c.args.bound c.simple.result c.simple.ensures a) c.with_simple.ensures

use Rattle.std.proofs.Common.{arith, ap₂, refl}
use Rattle.ch_affine.specs.Rows.{Rows}
use Rattle.ch_plan.specs.declared.plan.Plan.{Plan}
use Rattle.ch_plan.specs.declared.plan.Plan.TheVariants.{Guard}
use Rattle.ch_eval.proofs.Planning.{grows_more}
use Rattle.ch_eval.proofs.make.guard_of.Goals as goal

pub returns-clause-grows : goal.returns-clause-grows
returns-clause-grows c = grows_more c.args.needs.now _ (omega arith) (omega (arith, c.max-needs.ensures)) (omega (arith, c.max-needs-2.ensures)) refl

pub returns-clause-plan : goal.returns-clause-plan
returns-clause-plan c = ap₂ (λ (s : Rows) (p : Plan). Guard s c.args.around p) c.in_ok-system.ensures c.in_ok-inner.ensures

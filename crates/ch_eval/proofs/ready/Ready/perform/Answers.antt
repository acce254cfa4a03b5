use Rattle.std.proofs.Common.{◌∙◌, ap}
use Rattle.ch_plan.specs.Planned.{meter_plan, run_plan, state}
use Rattle.ch_eval.proofs.ready.Ready.perform.Goals as goal

pub returns-clause-cells : goal.returns-clause-cells
returns-clause-cells c =
    c.walk.ensures.cells ∙ ap (λ xs. run_plan c.args.self.now.setting.vars c.args.self.now.setting.rows c.args.self.now.plan xs c.args.cells.now) c.as_mut_slice-point.ensures.value

pub returns-clause-cost : goal.returns-clause-cost
returns-clause-cost c =
    ap (λ w. w.sum) c.walk.ensures.meter ∙ ap (λ xs. (meter_plan c.args.self.now.setting c.args.self.now.plan xs (state c.args.self.now.tally)).sum) c.as_mut_slice-point.ensures.value

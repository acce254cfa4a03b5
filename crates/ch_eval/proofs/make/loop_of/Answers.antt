use Rattle.std.proofs.Common.{ap}
use Rattle.ch_plan.specs.declared.plan.Plan.{Plan}
use Rattle.ch_plan.specs.declared.plan.Plan.TheVariants.{Loop}
use Rattle.ch_eval.proofs.make.loop_of.Goals as goal

pub returns : goal.returns
returns c = record {
  low_limits = c.in_ok-lows.lows;
  high_limits = c.in_ok-highs.highs;
  made = ap (λ (p : Plan). Loop c.args.around c.in_ok-lows.lows c.in_ok-highs.highs p) c.in_ok-inner.ensures;
  lows = c.in_ok-lows.ensures;
  highs = c.in_ok-highs.ensures;
}

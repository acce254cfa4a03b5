use Rattle.std.proofs.Common.{length, get_or, sym, ap, ◌∙◌, arith, Some, List, [], ◌∷◌, length-append}
use Rattle.ch_rank.specs.declared.outcome.Costed.{Costed}
use Rattle.ch_rank.specs.Board.{known_by}
use Rattle.ch_rank.proofs.Rowing.{costed_more, costed_none}
use Rattle.ch_rank.proofs.rows.costed.Goals as goal

pub returns-in-None : goal.returns-in-None
returns-in-None c = sym (costed_none (known_by c.args.outcomes.now) c.args.trials.now c.loop-trial.trial-index c.loop-trial-test.true c.in-None.is)

pub loop-trial-preserved : goal.loop-trial-preserved
loop-trial-preserved c = (
  omega (arith, ap length c.push.ensures, length-append c.loop-trial.row (record { trial = get_or c.args.trials.now c.loop-trial.trial-index 0; outcome = c.in-Some.outcome } ∷ []), c.loop-trial.invariant.0),
  costed_more (known_by c.args.outcomes.now) c.args.trials.now c.loop-trial.trial-index c.in-Some.outcome c.loop-trial.row c.loop-trial.invariant.1 c.loop-trial-test.true c.in-Some.is ∙ ap (λ (r : List Costed). Some r) (sym c.push.ensures),
)

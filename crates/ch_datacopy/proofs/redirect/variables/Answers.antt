use Rattle.ch_datacopy.proofs.Steps.{variables_end, variables_more}
use Rattle.ch_datacopy.proofs.redirect.variables.Goals as goal

pub loop-k-preserved : goal.loop-k-preserved
loop-k-preserved c = λ es e.
    variables_more c.args.before c.loop-k.k es c.args.dimensions c.in_ok-form.form c.loop-k.subs c.push.new.self e c.loop-k-test.true c.in_ok-form.ensures (c.loop-k.invariant es e) c.in_ok-push.ensures.ok

pub returns : goal.returns
returns c = λ es e. variables_end c.args.before c.loop-k.k es c.args.dimensions c.loop-k.subs e c.loop-k-test.false (c.loop-k.invariant es e)

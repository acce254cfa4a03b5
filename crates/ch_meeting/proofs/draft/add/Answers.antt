use Rattle.std.proofs.lemmas.Result.{on_ok_weaker}
use Rattle.ch_meeting.proofs.Stretches.{added_long, added_small, added_sum}
use Rattle.ch_meeting.proofs.draft.add.Goals as goal

pub returns-clause-long : goal.returns-clause-long
returns-clause-long c =
    on_ok_weaker c.extend.result (λ e. added_long c.args.coefs.now c.pad.new.coefs c.extend.new.coefs c.args.more.now c.args.start c.requires.after c.in_ok-pad.ensures e) c.extend.ensures

pub returns-clause-small : goal.returns-clause-small
returns-clause-small c =
    on_ok_weaker c.extend.result
    (λ e. added_small c.args.coefs.now c.pad.new.coefs c.extend.new.coefs c.args.more.now c.args.start c.requires.after c.in_ok-pad.ensures e c.requires.small c.requires.small_more) c.extend.ensures

pub returns-clause-sum : goal.returns-clause-sum
returns-clause-sum c =
    on_ok_weaker c.extend.result (λ e. added_sum c.args.coefs.now c.pad.new.coefs c.extend.new.coefs c.args.more.now c.args.start c.requires.after c.in_ok-pad.ensures e) c.extend.ensures

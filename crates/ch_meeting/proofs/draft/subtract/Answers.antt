use Rattle.std.proofs.Common.{◌∙◌, ap, ◌+◌, map, neg_ℤ}
use Rattle.std.proofs.lemmas.List.{length-map}
use Rattle.std.proofs.lemmas.Result.{on_ok_weaker}
use Rattle.ch_meeting.proofs.Stretches.{added_long, added_small, subtracted_sum, negated_small}
use Rattle.ch_meeting.proofs.draft.subtract.Goals as goal

pub returns-clause-long : goal.returns-clause-long
returns-clause-long c =
    on_ok_weaker c.extend_negated.result
    (λ e. added_long c.args.coefs.now c.pad.new.coefs c.extend_negated.new.coefs (map neg_ℤ c.args.more.now) c.args.start c.requires.after c.in_ok-pad.ensures e
    ∙ ap (λ n. c.args.start + n) (length-map c.args.more.now neg_ℤ)) c.extend_negated.ensures

pub returns-clause-small : goal.returns-clause-small
returns-clause-small c =
    on_ok_weaker c.extend_negated.result
    (λ e. added_small c.args.coefs.now c.pad.new.coefs c.extend_negated.new.coefs (map neg_ℤ c.args.more.now) c.args.start c.requires.after c.in_ok-pad.ensures e c.requires.small
    (negated_small c.args.more.now c.requires.small_more)) c.extend_negated.ensures

pub returns-clause-sum : goal.returns-clause-sum
returns-clause-sum c =
    on_ok_weaker c.extend_negated.result
    (λ e. subtracted_sum c.args.coefs.now c.pad.new.coefs c.extend_negated.new.coefs c.args.more.now c.args.start c.requires.after c.in_ok-pad.ensures e) c.extend_negated.ensures

use Rattle.std.proofs.Common.{◌+◌, length, subst}
use Rattle.std.proofs.lemmas.Result.{on_ok_weaker}
use Rattle.ch_meeting.specs.Drafts.{Narrows}
use Rattle.ch_meeting.specs.Placed.{TiedAt}
use Rattle.ch_meeting.proofs.Least.{narrowed_twice}
use Rattle.ch_meeting.proofs.placing.tie_pair.Goals as goal

pub returns : goal.returns
returns c =
    on_ok_weaker c.tie-2.result
    (λ e. narrowed_twice c.args.draft.now c.tie.new.draft c.tie-2.new.draft (TiedAt c.args.first.now c.args.start c.args.iters)
    (TiedAt c.args.second.now (c.args.start + c.args.first.now.levels) (c.args.iters + length c.args.first.now.origin)) c.in_ok-tie.ensures
    (subst (λ n. Narrows c.tie.new.draft c.tie-2.new.draft (TiedAt c.args.second.now (c.args.start + c.args.first.now.levels) (c.args.iters + n))) c.len.ensures e))
    c.tie-2.ensures

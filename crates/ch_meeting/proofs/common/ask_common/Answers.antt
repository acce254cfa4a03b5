use Rattle.std.proofs.lemmas.Result.{on_ok_weaker}
use Rattle.ch_meeting.specs.Asked.{pair_size}
use Rattle.ch_meeting.specs.Placed.{PairAt, TiedAt}
use Rattle.ch_meeting.proofs.Least.{narrowed_twice}
use Rattle.ch_meeting.proofs.common.ask_common.Goals as goal

pub returns : goal.returns
returns c =
    on_ok_weaker c.place_pair.result
    (λ e. narrowed_twice c.args.draft.now c.tie-2.new.draft c.place_pair.new.draft
    (λ z. TiedAt c.args.first.now 0 (pair_size c.args.first.now c.args.second.now) z × TiedAt c.args.second.now c.args.first.now.levels (pair_size c.args.first.now c.args.second.now) z)
    (PairAt c.args.first.now c.args.second.now 0)
    (narrowed_twice c.args.draft.now c.tie.new.draft c.tie-2.new.draft (TiedAt c.args.first.now 0 (pair_size c.args.first.now c.args.second.now))
    (TiedAt c.args.second.now c.args.first.now.levels (pair_size c.args.first.now c.args.second.now)) c.in_ok-tie.ensures c.in_ok-tie-2.ensures) e)
    c.place_pair.ensures

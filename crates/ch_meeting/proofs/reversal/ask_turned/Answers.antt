use Rattle.std.proofs.Common.{◌+◌}
use Rattle.std.proofs.lemmas.Result.{on_ok_weaker}
use Rattle.ch_meeting.specs.Placed.{PairAt, TiedAt}
use Rattle.ch_meeting.proofs.Least.{narrowed_thrice}
use Rattle.ch_meeting.proofs.reversal.ask_turned.Goals as goal

pub returns : goal.returns
returns c =
    on_ok_weaker c.place_pair.result
    (λ e. narrowed_thrice c.args.draft.now c.tie.new.draft c.tie-2.new.draft c.place_pair.new.draft (TiedAt c.args.pieces.now.new_second.now c.args.start c.args.others) (TiedAt c.args.pieces.now.new_first.now (c.args.start + c.args.pieces.now.new_second.now.levels) c.args.iters)
    (PairAt c.args.pieces.now.new_second.now c.args.pieces.now.new_first.now c.args.start) c.in_ok-tie.ensures c.in_ok-tie-2.ensures e)
    c.place_pair.ensures

use Rattle.std.proofs.Common.{length}
use Rattle.std.proofs.lemmas.Result.{on_ok_weaker}
use Rattle.ch_meeting.specs.Asked.{first_site, second_site}
use Rattle.ch_meeting.specs.Placed.{PairAt, PairTiedAt, SameUpTo}
use Rattle.ch_meeting.proofs.Least.{narrowed_thrice}
use Rattle.ch_meeting.proofs.Steps.{sites_same}
use Rattle.ch_meeting.proofs.meeting.ask_meeting.Goals as goal

pub returns : goal.returns
returns c =
    on_ok_weaker c.place_pair.result
    (λ e. narrowed_thrice c.args.draft.now c.tie_pair.new.draft c.same_cell.new.draft c.place_pair.new.draft (PairTiedAt c.args.first.now c.args.second.now 0 c.args.iters)
    (SameUpTo (length c.args.accesses.now.first.now.subs) c.args.accesses.now.first.now c.args.accesses.now.second.now (first_site c.args.first.now c.args.second.now c.args.iters)
    (second_site c.args.first.now c.args.second.now c.args.accesses.now.first.now c.args.iters))
    (PairAt c.args.first.now c.args.second.now 0) c.in_ok-tie_pair.ensures
    (sites_same c.tie_pair.new.draft c.same_cell.new.draft (length c.args.accesses.now.first.now.subs) c.args.accesses.now.first.now c.args.accesses.now.second.now c.args.first.now c.args.second.now c.args.iters c.len.result c.len-2.result
    c.len-count.result c.len.ensures c.len-2.ensures c.len-count.ensures c.in_ok-same_cell.ensures) e)
    c.place_pair.ensures

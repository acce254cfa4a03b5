use Rattle.std.proofs.lemmas.Bool.{both_ways}
use Rattle.ch_meeting.proofs.Reversals.{not_met}
use Rattle.ch_meeting.proofs.reversal.least_met.Goals as goal

pub returns-then-not-branch-clause-least : goal.returns-then-not-branch-clause-least
returns-then-not-branch-clause-least c =
    not_met c.args.pieces.now.first.now c.args.pieces.now.second.now c.args.pieces.now.new_first.now c.args.pieces.now.new_second.now c.args.accesses.now.first.now c.args.accesses.now.second.now c.args.order c.args.turns.now
    (λ m. both_ways _ c.if-not-branch.true (c.in_ok-meets_in_order.ensures.answer.1 m))

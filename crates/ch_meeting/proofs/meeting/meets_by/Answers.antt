use Rattle.std.proofs.Common.{refl, sym, subst}
use Rattle.std.proofs.lemmas.Bool.{both_ways}
use Rattle.ch_meeting.specs.Asked.{AreMeeting, Asks, meeting_boxes, pair_size}
use Rattle.ch_meeting.proofs.Meetings.{meeting_none}
use Rattle.ch_meeting.proofs.meeting.meets_by.Goals as goal

pub is_excluded-requires : goal.is_excluded-requires
is_excluded-requires c = c.in_ok-draft.ensures.draft

pub returns-then-is_excluded : goal.returns-then-is_excluded
returns-then-is_excluded c = (
  λ t. absurd (both_ways _ refl t),
  λ m. absurd (meeting_none c.args.order c.args.first.now c.args.second.now c.args.accesses.now.first.now c.args.accesses.now.second.now c.requires.first c.requires.second c.requires.accesses.first c.requires.accesses.second c.requires.alike.array c.requires.alike.subscripts c.requires.within c.in_ok-draft.draft c.in_ok-draft.ensures (c.is_excluded.ensures.none c.if-is_excluded.true) m),
)

pub meets_in_order-requires-clause-asks : goal.meets_in_order-requires-clause-asks
meets_in_order-requires-clause-asks c =
    subst (λ d. Asks d (meeting_boxes c.args.first.now c.args.second.now c.args.accesses.now.first.now c.args.accesses.now.second.now) (AreMeeting c.args.first.now c.args.second.now c.args.accesses.now.first.now c.args.accesses.now.second.now (pair_size c.args.first.now c.args.second.now))) (sym c.is_excluded.ensures.draft) c.in_ok-draft.ensures

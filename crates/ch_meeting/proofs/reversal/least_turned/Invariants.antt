use Rattle.std.proofs.Common.{◌≡◌, take}
use Rattle.ch_meeting.specs.Asked.{IsTurnedAmongOf}
use Rattle.ch_meeting.specs.Meeting.{IsLeastPair}
use Rattle.ch_meeting.proofs.reversal.least_turned.Given as goal

abbrev pub invariant-loop-turn : goal.invariant-loop-turn
invariant-loop-turn l = record {
  least : IsLeastPair l.pieces.first.now.levels (IsTurnedAmongOf l.order (take l.turn-index l.turns) l.pieces l.accesses) l.least;
  draft : l.draft ≡ l.initial.draft;
}

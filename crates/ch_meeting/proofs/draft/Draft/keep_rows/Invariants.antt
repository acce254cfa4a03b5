use Rattle.std.proofs.Common.{◌≡◌, length, take}
use Rattle.ch_meeting.proofs.draft.Draft.keep_rows.Given as goal

abbrev pub invariant-spare : goal.invariant-spare
invariant-spare l = record {
  boxes : l.self.boxes ≡ l.initial.self.boxes;
  rows : take l.count l.self.rows ≡ take l.count l.initial.self.rows;
}

abbrev pub decreases-spare : goal.decreases-spare
decreases-spare l = length l.self.rows

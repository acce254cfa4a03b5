use Rattle.std.proofs.Common.{◌∙◌, ◌<◌, ◌≤◌, length, arith}
use Rattle.ch_meeting.proofs.Least.{kept_all, popped}
use Rattle.ch_meeting.proofs.draft.Draft.keep_rows.Goals as goal

pub spare-preserved : goal.spare-preserved
spare-preserved c =
    let more : c.args.count < length c.spare.self.rows = omega arith in
    record {
      boxes = c.spare.invariant.boxes;
      rows = (popped c.args.count c.spare.self.rows c.pop.new.self c.pop.result c.pop.ensures more).0 ∙ c.spare.invariant.rows;
    }

pub spare-smaller : goal.spare-smaller
spare-smaller c =
    let more : c.args.count < length c.spare.self.rows = omega arith in
    (popped c.args.count c.spare.self.rows c.pop.new.self c.pop.result c.pop.ensures more).1

pub returns-clause-rows : goal.returns-clause-rows
returns-clause-rows c =
    let few : length c.spare.self.rows ≤ c.args.count = omega arith in
    kept_all c.args.count c.args.self.now.rows c.spare.self.rows few c.spare.invariant.rows

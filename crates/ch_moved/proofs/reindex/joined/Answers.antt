use Rattle.ch_moved.proofs.Joining.{joined_system}
use Rattle.ch_moved.proofs.reindex.joined.Goals as goal

pub invariant_of-result : goal.invariant_of-result
invariant_of-result c =
    joined_system c.args.rows c.args.conditions.now c.push_widened.new.rows c.args.boxes c.args.hidden.now c.push_ranges.new.boxes c.len.result c.requires.few c.requires.rows c.requires.conditions
    c.requires.boxes c.requires.hidden c.in_ok-push_widened.ensures c.in_ok-push_ranges.ensures c.len.ensures

use Rattle.std.proofs.Common.{length}
use Rattle.ch_plan.proofs.accesses.+add_subs.Given as goal

abbrev pub decreases-add_subs : goal.decreases-add_subs
decreases-add_subs l = length l.extents.now

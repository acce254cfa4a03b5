use Rattle.std.proofs.Common.{length}
use Rattle.ch_plan.proofs.ends.+least_high.Given as goal

abbrev pub decreases-least_high : goal.decreases-least_high
decreases-least_high l = length l.highs.now

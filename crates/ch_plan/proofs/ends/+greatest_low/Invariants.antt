use Rattle.std.proofs.Common.{length}
use Rattle.ch_plan.proofs.ends.+greatest_low.Given as goal

abbrev pub decreases-greatest_low : goal.decreases-greatest_low
decreases-greatest_low l = length l.lows.now

use Rattle.std.proofs.Common.{length}
use Rattle.ch_nest.proofs.boxes.+least_sum.Given as goal

abbrev pub decreases-least_sum : goal.decreases-least_sum
decreases-least_sum l = length l.coefs.now

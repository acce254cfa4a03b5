use Rattle.std.proofs.Common.{length}
use Rattle.ch_nest.proofs.boxes.+greatest_sum.Given as goal

abbrev pub decreases-greatest_sum : goal.decreases-greatest_sum
decreases-greatest_sum l = length l.coefs.now

use Rattle.std.proofs.Common.{length}
use Rattle.ch_nest.proofs.boxes.+least_of_greatest.Given as goal

abbrev pub decreases-least_of_greatest : goal.decreases-least_of_greatest
decreases-least_of_greatest l = length l.highs.now

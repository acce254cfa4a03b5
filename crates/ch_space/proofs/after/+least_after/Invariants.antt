use Rattle.std.proofs.Common.{length}
use Rattle.ch_space.proofs.after.+least_after.Given as goal

abbrev pub decreases-least_after : goal.decreases-least_after
decreases-least_after l = length l.places.now

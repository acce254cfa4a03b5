use Rattle.std.proofs.Common.{length}
use Rattle.ch_nest.proofs.boxes.+low_end.Given as goal

abbrev pub decreases-low_end : goal.decreases-low_end
decreases-low_end l = length l.lows.now

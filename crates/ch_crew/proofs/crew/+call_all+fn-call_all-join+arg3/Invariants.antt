use Rattle.std.proofs.Common.{◌+◌, ◌*◌}
use Rattle.ch_crew.proofs.crew.+call_all+fn-call_all-join+arg3.Given as goal

abbrev pub decreases-call_all : goal.decreases-call_all
decreases-call_all g l = 3 * l.n

abbrev pub decreases-join+arg3 : goal.decreases-join+arg3
decreases-join+arg3 g l = 3 * l.c + 1

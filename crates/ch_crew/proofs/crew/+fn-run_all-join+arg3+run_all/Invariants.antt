use Rattle.std.proofs.Common.{◌+◌, ◌-◌, ◌*◌}
use Rattle.ch_crew.proofs.crew.+fn-run_all-join+arg3+run_all.Given as goal

abbrev pub decreases-run_all : goal.decreases-run_all
decreases-run_all g l = 3 * (l.n - l.k)

abbrev pub decreases-join+arg3 : goal.decreases-join+arg3
decreases-join+arg3 g l = 3 * (l.n - (l.k + 1)) + 1

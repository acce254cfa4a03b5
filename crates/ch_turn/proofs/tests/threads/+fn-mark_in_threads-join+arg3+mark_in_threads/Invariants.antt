use Rattle.std.proofs.Common.{◌+◌, ◌-◌, ◌*◌}
use Rattle.ch_turn.proofs.tests.threads.+fn-mark_in_threads-join+arg3+mark_in_threads.Given as goal

abbrev pub decreases-mark_in_threads : goal.decreases-mark_in_threads
decreases-mark_in_threads g l = 3 * (l.n - l.k)

abbrev pub decreases-join+arg3 : goal.decreases-join+arg3
decreases-join+arg3 g l = 3 * (l.n - (l.k + 1)) + 1

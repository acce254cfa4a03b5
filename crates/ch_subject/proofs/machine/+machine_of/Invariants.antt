use Rattle.std.proofs.Common.{length}
use Rattle.ch_subject.proofs.machine.+machine_of.Given as goal

abbrev pub decreases-machine_of : goal.decreases-machine_of
decreases-machine_of l = length l.clients.now

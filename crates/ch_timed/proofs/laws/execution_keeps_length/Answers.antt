use Rattle.ch_timed.proofs.MoreArrays.{done_length}
use Rattle.ch_timed.proofs.laws.execution_keeps_length.Goals as goal

pub returns : goal.returns
returns c = done_length

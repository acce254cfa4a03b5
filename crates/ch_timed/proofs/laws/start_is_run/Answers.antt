use Rattle.ch_timed.proofs.Program.{run_is}
use Rattle.ch_timed.proofs.laws.start_is_run.Goals as goal

pub returns : goal.returns
returns c = run_is

use Rattle.ch_timed.proofs.WellFormed.{start_fine}
use Rattle.ch_timed.proofs.laws.start_well_formed.Goals as goal

pub returns : goal.returns
returns c = start_fine

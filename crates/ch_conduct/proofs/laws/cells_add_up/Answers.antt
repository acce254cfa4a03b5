use Rattle.ch_conduct.proofs.Stores.{cells_of_call, cells_of_others}
use Rattle.ch_conduct.proofs.laws.cells_add_up.Goals as goal

pub returns : goal.returns
returns c = record { called = cells_of_call; others = cells_of_others }

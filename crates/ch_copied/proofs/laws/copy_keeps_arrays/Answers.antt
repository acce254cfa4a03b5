use Rattle.ch_copied.proofs.FlatMeaning.{copy_inside, copy_keeps, same_cells}
use Rattle.ch_copied.proofs.laws.copy_keeps_arrays.Goals as goal

pub returns : goal.returns
returns c = record { inside = copy_inside; keeps = copy_keeps; flat = same_cells }

use Rattle.ch_order.proofs.Legal.{neighbours}
use Rattle.ch_order.proofs.laws.neighbours_change_places.Goals as goal

pub returns : goal.returns
returns c = neighbours

use Rattle.ch_order.proofs.Legal.{legal_end, legal_inside, legal_end_flat}
use Rattle.ch_order.proofs.laws.legal_does_same.Goals as goal

pub returns : goal.returns
returns c = record { store = legal_end; inside = legal_inside; flat = legal_end_flat }

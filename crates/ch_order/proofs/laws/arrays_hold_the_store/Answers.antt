use Rattle.ch_order.proofs.Held.{held}
use Rattle.ch_order.proofs.laws.arrays_hold_the_store.Goals as goal

pub returns : goal.returns
returns c = held

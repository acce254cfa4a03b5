use Rattle.ch_order.proofs.Agreements.{keeps_both, keeps_but, keeps_itself, keeps_legal, keeps_same}
use Rattle.ch_order.proofs.laws.keeping_arrays_composes.Goals as goal

pub returns : goal.returns
returns c = record { itself = keeps_itself; same = keeps_same; legal = keeps_legal; copied = keeps_but; both = keeps_both }

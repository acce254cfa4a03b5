use Rattle.ch_permute.proofs.Unmoved.{same_order}
use Rattle.ch_permute.proofs.laws.same_order_changes_nothing.Goals as goal

pub returns : goal.returns
returns c = same_order

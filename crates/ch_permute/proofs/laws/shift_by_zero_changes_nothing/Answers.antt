use Rattle.ch_permute.proofs.Unmoved.{shifted_by_zero}
use Rattle.ch_permute.proofs.laws.shift_by_zero_changes_nothing.Goals as goal

pub returns : goal.returns
returns c = shifted_by_zero

use Rattle.ch_permute.proofs.Unmoved.{skewed_by_zeros}
use Rattle.ch_permute.proofs.laws.skew_by_zeros_changes_nothing.Goals as goal

pub returns : goal.returns
returns c = skewed_by_zeros

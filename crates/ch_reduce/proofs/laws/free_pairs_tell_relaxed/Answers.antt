use Rattle.ch_reduce.proofs.FreePairs.{relaxed_is}
use Rattle.ch_reduce.proofs.laws.free_pairs_tell_relaxed.Goals as goal

pub returns : goal.returns
returns c = relaxed_is

use Rattle.ch_fuse.proofs.Unmoved.{fused_none}
use Rattle.ch_fuse.proofs.laws.fusing_none_changes_nothing.Goals as goal

pub returns : goal.returns
returns c list level h = fused_none list level h

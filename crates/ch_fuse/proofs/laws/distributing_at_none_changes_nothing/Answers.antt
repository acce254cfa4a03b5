use Rattle.ch_fuse.proofs.Unmoved.{distributed_none}
use Rattle.ch_fuse.proofs.laws.distributing_at_none_changes_nothing.Goals as goal

pub returns : goal.returns
returns c list level h = distributed_none list level h

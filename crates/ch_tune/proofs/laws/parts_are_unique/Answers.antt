use Rattle.ch_tune.proofs.Unique.{same_part}
use Rattle.ch_tune.proofs.laws.parts_are_unique.Goals as goal

pub returns : goal.returns
returns c = same_part

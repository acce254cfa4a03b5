use Rattle.std.proofs.Common.{[]}
use Rattle.ch_rank.proofs.Legal.{legal_parts}
use Rattle.ch_rank.proofs.laws.beginnings_are_legal.Goals as goal

pub returns : goal.returns
returns c = λ grid r es more h. (legal_parts grid r [] es more h).0

use Rattle.std.proofs.Common.{rules}
use Rattle.std.proofs.lemmas.Int.{wraps}
use Rattle.ch_run.proofs.sums.plus.Goals as goal

pub returns : goal.returns
returns c = search (rules, wraps)

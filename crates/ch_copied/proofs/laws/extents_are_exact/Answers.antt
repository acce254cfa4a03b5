use Rattle.ch_copied.proofs.Exact.{exact, exact_length, one_extent}
use Rattle.ch_copied.proofs.laws.extents_are_exact.Goals as goal

pub returns : goal.returns
returns c = record { dimensions = exact_length; exact = exact; alone = one_extent }

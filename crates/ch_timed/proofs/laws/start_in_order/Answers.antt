use Rattle.ch_timed.proofs.Blocks.{start_ascends}
use Rattle.ch_timed.proofs.Sorted.{ascends_adjacent, ascends_ordered}
use Rattle.ch_timed.specs.Start.{start}
use Rattle.ch_timed.proofs.laws.start_in_order.Goals as goal

pub returns : goal.returns
returns c = record {
  ascends = λ nest. ascends_adjacent (start nest) (start_ascends nest);
  sorted = λ nest. ascends_ordered (start nest) (start_ascends nest);
}

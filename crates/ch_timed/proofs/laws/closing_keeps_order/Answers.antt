use Rattle.std.proofs.Common.{ap}
use Rattle.std.specs.Ordering.{is_lt}
use Rattle.ch_timed.proofs.ClosedUp.{closed_order, stays_placed, same_steps, closed_fine}
use Rattle.ch_timed.proofs.laws.closing_keeps_order.Goals as goal

pub returns : goal.returns
returns c = record {
  vectors = λ list e f i j. ap is_lt (closed_order list e f i j);
  places_stay = stays_placed;
  steps = same_steps;
  well_formed = closed_fine;
}

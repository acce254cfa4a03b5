use Rattle.ch_timed.proofs.MoreArrays.{done_more, place_more, stays_more}
use Rattle.ch_timed.proofs.laws.more_arrays_change_nothing.Goals as goal

pub returns : goal.returns
returns c = record { inside = stays_more; places = place_more; done = done_more }

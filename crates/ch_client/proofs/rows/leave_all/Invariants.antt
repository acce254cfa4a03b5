use Rattle.std.proofs.Common.{ℕ}
use Rattle.ch_client.proofs.rows.leave_all.Given as goal
use Rattle.ch_client.specs.Stands.{Rests}
use Rattle.ch_seats.specs.Walk.{Walks}

abbrev pub invariant-loop-i : goal.invariant-loop-i
invariant-loop-i g l = Walks (Rests (g.B.Bench.means l.client.bench.now) l.client.number 1) (Rests (g.B.Bench.means l.client.bench.now) l.client.number 0) l.i l.books l.seats

use Rattle.std.proofs.Common.{ℕ}
use Rattle.ch_client.proofs.rows.leave_called.Given as goal
use Rattle.ch_client.specs.Stands.{Waits, Ended}
use Rattle.ch_seats.specs.Walk.{Walks}

abbrev pub invariant-loop-i : goal.invariant-loop-i
invariant-loop-i g l =
    let k = l.client in
    Walks (Waits (g.B.Bench.means k.bench.now) k.number k.manner.patient k.manner.machine g.V.Made.made l.fn.lines l.notes.lasts.items) (Ended (g.B.Bench.means k.bench.now) k.number k.manner.patient k.manner.machine l.fn.lines) l.i l.books l.seats

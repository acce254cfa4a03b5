use Rattle.ch_session.specs.History.{holds}
use Rattle.ch_seats.specs.Seated.{theme_in}
use Rattle.ch_seats.proofs.Taken.{took, sits_on, leave_own}
use Rattle.ch_seats.proofs.worker.Worker.leave.Goals as goal

pub returns-clause-sits : goal.returns-clause-sits
returns-clause-sits g c =
    let w = c.args.self.now in
    let t = c.leave.ensures.turn in
    sits_on w.number w.book.now c.args.seat.now c.leave.new.seat t.0 _ c.requires.sits t.1 (leave_own w.number (holds (theme_in w.book.now) t.0 w.number))

pub returns-clause-turn : goal.returns-clause-turn
returns-clause-turn g c =
    let w = c.args.self.now in
    let t = c.leave.ensures.turn in
    (t.0, took w.number w.book.now c.args.seat.now c.leave.new.seat t.0 _ c.requires.sits t.1 (leave_own w.number (holds (theme_in w.book.now) t.0 w.number)))

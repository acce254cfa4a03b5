use Rattle.ch_session.specs.History.{left_after}
use Rattle.ch_seats.specs.Seated.{theme_in}
use Rattle.ch_seats.proofs.Taken.{took, sits_on, report_own}
use Rattle.ch_seats.proofs.worker.Worker.report.Goals as goal

pub returns-clause-sits : goal.returns-clause-sits
returns-clause-sits g c =
    let w = c.args.self.now in
    let t = c.in-Ok.ensures.turn in
    sits_on w.number w.book.now c.args.seat.now c.report.new.seat t.0 _ c.requires.sits t.1 (report_own w.number c.args.trial c.args.call c.args.cost (left_after (theme_in w.book.now) t.0 c.args.trial))

pub returns-clause-turn : goal.returns-clause-turn
returns-clause-turn g c =
    let w = c.args.self.now in
    let t = c.in-Ok.ensures.turn in
    (t.0, took w.number w.book.now c.args.seat.now c.report.new.seat t.0 _ c.requires.sits t.1 (report_own w.number c.args.trial c.args.call c.args.cost (left_after (theme_in w.book.now) t.0 c.args.trial)))

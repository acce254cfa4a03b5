use Rattle.ch_seats.proofs.Taken.{took, sits_on, build_own}
use Rattle.ch_seats.proofs.worker.Worker.tell.Goals as goal

pub returns-clause-sits : goal.returns-clause-sits
returns-clause-sits g c =
    let w = c.args.self.now in
    let t = c.in-Ok.ensures.turn in
    sits_on w.number w.book.now c.args.seat.now c.built.new.seat t.0 _ c.requires.sits t.1 (build_own w.number c.args.builder c.args.trial c.args.outcome c.requires.number c.requires.builder)

pub returns-clause-turn : goal.returns-clause-turn
returns-clause-turn g c =
    let w = c.args.self.now in
    let t = c.in-Ok.ensures.turn in
    (t.0, took w.number w.book.now c.args.seat.now c.built.new.seat t.0 _ c.requires.sits t.1 (build_own w.number c.args.builder c.args.trial c.args.outcome c.requires.number c.requires.builder))

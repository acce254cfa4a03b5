use Rattle.ch_seats.proofs.Taken.{took, sits_on, fetch_own, fetched_last}
use Rattle.ch_seats.proofs.worker.Worker.fetch.Goals as goal

pub returns-clause-sits : goal.returns-clause-sits
returns-clause-sits g c =
    let w = c.args.self.now in
    let t = c.fetch.ensures.turn in
    sits_on w.number w.book.now c.args.seat.now c.fetch.new.seat t.0 _ c.requires.sits t.1 (fetch_own w.number c.fetch.result)

pub returns-clause-turn : goal.returns-clause-turn
returns-clause-turn g c =
    let w = c.args.self.now in
    let t = c.fetch.ensures.turn in
    (t.0, took w.number w.book.now c.args.seat.now c.fetch.new.seat t.0 _ c.requires.sits t.1 (fetch_own w.number c.fetch.result), t.2)

pub returns-clause-last : goal.returns-clause-last
returns-clause-last g c =
    let w = c.args.self.now in
    let t = c.fetch.ensures.turn in
    let own = fetch_own w.number c.fetch.result in
    fetched_last w.number w.book.now c.args.seat.now c.fetch.new.seat t.0 c.fetch.result
    (sits_on w.number w.book.now c.args.seat.now c.fetch.new.seat t.0 _ c.requires.sits t.1 own)
    (took w.number w.book.now c.args.seat.now c.fetch.new.seat t.0 _ c.requires.sits t.1 own)

use Rattle.ch_sessions.proofs.Seated.{rest_changed}
use Rattle.ch_sessions.proofs.on_book.Table.alternate.Goals as goal

pub returns : goal.returns
returns g c =
    let t = c.args.self.now in
    record {
      about = c.requires.about;
      seats = rest_changed t.shared.book t.rest c.alternate-rise.new.rest t.desks.items c.requires.seats c.alternate-rise.ensures.rest c.alternate-rise.ensures.held;
      known = c.requires.known;
    }

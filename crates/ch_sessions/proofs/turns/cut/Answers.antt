use Rattle.std.proofs.Common.{◌∙◌}
use Rattle.ch_book.specs.Books.{number_of}
use Rattle.ch_sessions.proofs.Knowing.{seat_alike}
use Rattle.ch_sessions.proofs.turns.cut.Goals as goal

pub returns-clause-rest : goal.returns-clause-rest
returns-clause-rest g c =
    let k = seat_alike c.args.book.now (number_of c.args.rest.now) c.args.rest.now c.split.new.seat c.split.ensures.seat c.split.ensures.kept.0 c.requires.rest.0 in
    (k.0, k.1 ∙ c.requires.rest.1)

pub returns-clause-seat : goal.returns-clause-seat
returns-clause-seat g c = seat_alike c.args.book.now c.args.number c.args.rest.now c.in-Ok.seat c.in-Ok.ensures.new.0 c.in-Ok.ensures.new.2 c.requires.rest.0

use Rattle.ch_sessions.proofs.Knowing.{seat_joined}
use Rattle.ch_sessions.proofs.turns.take_in.Goals as goal

pub returns-clause-rest : goal.returns-clause-rest
returns-clause-rest g c = seat_joined c.args.book.now 65535 c.args.rest.now c.args.seat c.join.new.seat c.join.ensures.seat c.join.ensures.longer c.requires.rest c.requires.seat

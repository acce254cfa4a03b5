use Rattle.ch_book.specs.Books.{IsOf, number_of}
use Rattle.ch_sessions.proofs.measure.read_often.Given as goal

abbrev pub invariant-loop-call : goal.invariant-loop-call
invariant-loop-call g l = IsOf l.book (number_of l.initial.seat) l.seat

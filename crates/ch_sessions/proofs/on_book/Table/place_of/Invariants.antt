use Rattle.std.proofs.Common.{◌≢◌, All, take}
use Rattle.ch_book.specs.Books.{number_of}
use Rattle.ch_sessions.specs.declared.desk.Desk.{Desk}
use Rattle.ch_sessions.proofs.on_book.Table.place_of.Given as goal

abbrev pub invariant-loop-place : goal.invariant-loop-place
invariant-loop-place l = All (λ (d : Desk). number_of d.seat ≢ l.number) (take l.place l.self.desks.items)

use Rattle.std.proofs.Common.{rules, ◌≡◌, ◌<◌, ℕ, length, sym, ◌∙◌, subst, arith}
use Rattle.ch_rows.proofs.Taking.{takes_init, first_here, back_here, next_here, all_first, all_ours, all_theirs}
use Rattle.ch_rows.proofs.row.take_row.Goals as goal

pub loop-other-init : goal.loop-other-init
loop-other-init g c = takes_init c.args.books.now c.args.seats.now c.args.row.items c.requires.seats.0 c.requires.row.0

pub take_in-requires-clause-seat : goal.take_in-requires-clause-seat
take_in-requires-clause-seat g c =
    first_here c.args.books.now c.args.seats.now c.args.row.items c.requires.seats.0 c.requires.row.0 c.loop-other.row.items c.pop.new.self.items c.loop-other.seats c.in-Some.other c.in-Some.ensures.items c.loop-other.invariant
    c.len-i.result (search rules) c.index-books-i.result c.index-seats-i.result c.index-books-i.is c.requires.seats

pub take_in-requires-clause-other : goal.take_in-requires-clause-other
take_in-requires-clause-other g c =
    back_here c.args.books.now c.args.seats.now c.args.row.items c.requires.seats.0 c.requires.row.0 c.loop-other.row.items c.pop.new.self.items c.loop-other.seats c.in-Some.other c.in-Some.ensures.items c.loop-other.invariant
    c.len-i.result (search rules) c.index-books-i.result c.index-books-i.is c.requires.row

pub loop-other-preserved : goal.loop-other-preserved
loop-other-preserved g c =
    next_here c.args.books.now c.args.seats.now c.args.row.items c.requires.seats.0 c.requires.row.0 c.loop-other.row.items c.pop.new.self.items c.loop-other.seats c.in-Some.other c.in-Some.ensures.items c.loop-other.invariant
    c.len-i.result (search rules) c.index-books-i.result c.index-seats-i.result c.take_in.new.seat c.index-books-i.is c.take_in.ensures.seat c.take_in.ensures.ours c.take_in.ensures.theirs

pub returns-clause-seats : goal.returns-clause-seats
returns-clause-seats g c =
    all_first c.args.books.now c.args.seats.now c.args.row.items c.requires.seats.0 c.requires.row.0 c.loop-other.row.items c.loop-other.seats (omega (arith, c.in_default.ensures.cases.0)) c.loop-other.invariant

pub returns-clause-ours : goal.returns-clause-ours
returns-clause-ours g c =
    all_ours c.args.books.now c.args.seats.now c.args.row.items c.requires.seats.0 c.requires.row.0 c.loop-other.row.items c.loop-other.seats (omega (arith, c.in_default.ensures.cases.0)) c.loop-other.invariant

pub returns-clause-theirs : goal.returns-clause-theirs
returns-clause-theirs g c =
    all_theirs c.args.books.now c.args.seats.now c.args.row.items c.requires.seats.0 c.requires.row.0 c.loop-other.row.items c.loop-other.seats (omega (arith, c.in_default.ensures.cases.0)) c.loop-other.invariant

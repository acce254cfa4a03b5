use Rattle.std.proofs.Common.{rules, ◌≡◌, ℕ, ◌+◌, ◌<◌, ◌≤◌, length, get_or, arith}
use Rattle.ch_conduct.specs.Meaning.{Judge, Meaning, judge_of, program_of}
use Rattle.ch_client.specs.Stands.{Rests}
use Rattle.ch_seats.proofs.Walking.{walk_init, walk_here, walk_next, walk_end}
use Rattle.ch_client.proofs.rows.leave_all.Goals as goal

pub loop-i-init : goal.loop-i-init
loop-i-init g c = let m : Meaning = g.B.Bench.means c.args.client.now.bench.now in walk_init (Rests m c.args.client.now.number 1) (Rests m c.args.client.now.number 0) c.args.books.now c.args.seats.now c.requires.rests

pub leave-requires-clause-sits : goal.leave-requires-clause-sits
leave-requires-clause-sits g c = let m : Meaning = g.B.Bench.means c.args.client.now.bench.now in (walk_here (Rests m c.args.client.now.number 1) (Rests m c.args.client.now.number 0) c.args.books.now c.loop-i.seats c.loop-i.i c.index-books-i.result c.index-seats-i.result c.loop-i-test.true c.index-books-i.is c.loop-i.invariant).1

pub leave-requires-clause-left : goal.leave-requires-clause-left
leave-requires-clause-left g c = let m : Meaning = g.B.Bench.means c.args.client.now.bench.now in let h = (walk_here (Rests m c.args.client.now.number 1) (Rests m c.args.client.now.number 0) c.args.books.now c.loop-i.seats c.loop-i.i c.index-books-i.result c.index-seats-i.result c.loop-i-test.true c.index-books-i.is c.loop-i.invariant).2 in omega (arith, h)

pub loop-i-preserved : goal.loop-i-preserved
loop-i-preserved g c =
    let m : Meaning = g.B.Bench.means c.args.client.now.bench.now in
    let h = walk_here (Rests m c.args.client.now.number 1) (Rests m c.args.client.now.number 0) c.args.books.now c.loop-i.seats c.loop-i.i c.index-books-i.result c.index-seats-i.result c.loop-i-test.true c.index-books-i.is c.loop-i.invariant in
    walk_next (Rests m c.args.client.now.number 1) (Rests m c.args.client.now.number 0) c.args.books.now c.loop-i.seats c.loop-i.i c.index-books-i.result c.leave.new.seat c.loop-i-test.true c.index-books-i.is c.loop-i.invariant (h.0, c.leave.ensures.sits, omega arith)

pub returns : goal.returns
returns g c = let m : Meaning = g.B.Bench.means c.args.client.now.bench.now in record { rests = walk_end (Rests m c.args.client.now.number 1) (Rests m c.args.client.now.number 0) c.args.books.now c.loop-i.seats c.loop-i.i (search rules) c.loop-i.invariant }

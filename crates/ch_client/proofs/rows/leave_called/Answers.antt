use Rattle.std.proofs.Common.{rules, ◌≡◌, ℕ, ◌+◌, ◌<◌, ◌≤◌, length, get_or, Option, Some, None, arith, subst}
use Rattle.ch_conduct.specs.Meaning.{Judge, Meaning, judge_of, program_of}
use Rattle.ch_client.specs.declared.last.Last.{Last}
use Rattle.ch_client.specs.Stands.{Waits, Ended, LeftOne}
use Rattle.ch_seats.proofs.Walking.{walk_init, walk_here, walk_next, walk_end}
use Rattle.ch_client.proofs.Standing.{has_left}
use Rattle.ch_client.proofs.rows.leave_called.Goals as goal

pub loop-i-init : goal.loop-i-init
loop-i-init g c = let m : Meaning = g.B.Bench.means c.args.client.now.bench.now in walk_init (Waits m c.args.client.now.number c.args.client.now.manner.patient c.args.client.now.manner.machine g.V.Made.made c.args.lines.now c.args.notes.now.lasts.items) (Ended m c.args.client.now.number c.args.client.now.manner.patient c.args.client.now.manner.machine c.args.lines.now) c.args.books.now c.args.seats.now (c.requires.stands.0, λ j a b u l. c.requires.stands.2 j a b l u)

pub leave_one-requires-clause-sits : goal.leave_one-requires-clause-sits
leave_one-requires-clause-sits g c = let m : Meaning = g.B.Bench.means c.args.client.now.bench.now in (walk_here (Waits m c.args.client.now.number c.args.client.now.manner.patient c.args.client.now.manner.machine g.V.Made.made c.args.lines.now c.args.notes.now.lasts.items) (Ended m c.args.client.now.number c.args.client.now.manner.patient c.args.client.now.manner.machine c.args.lines.now) c.args.books.now c.loop-i.seats c.loop-i.i c.index-books-i.result c.index-seats-i.result c.loop-i-test.true c.index-books-i.is c.loop-i.invariant c.index.result.now).0.1

pub leave_one-requires-clause-left : goal.leave_one-requires-clause-left
leave_one-requires-clause-left g c = let m : Meaning = g.B.Bench.means c.args.client.now.bench.now in let h = (walk_here (Waits m c.args.client.now.number c.args.client.now.manner.patient c.args.client.now.manner.machine g.V.Made.made c.args.lines.now c.args.notes.now.lasts.items) (Ended m c.args.client.now.number c.args.client.now.manner.patient c.args.client.now.manner.machine c.args.lines.now) c.args.books.now c.loop-i.seats c.loop-i.i c.index-books-i.result c.index-seats-i.result c.loop-i-test.true c.index-books-i.is c.loop-i.invariant c.index.result.now).0.2 in omega (arith, h)

pub loop-i-preserved : goal.loop-i-preserved
loop-i-preserved g c =
    let m : Meaning = g.B.Bench.means c.args.client.now.bench.now in
    let h = walk_here (Waits m c.args.client.now.number c.args.client.now.manner.patient c.args.client.now.manner.machine g.V.Made.made c.args.lines.now c.args.notes.now.lasts.items) (Ended m c.args.client.now.number c.args.client.now.manner.patient c.args.client.now.manner.machine c.args.lines.now) c.args.books.now c.loop-i.seats c.loop-i.i c.index-books-i.result c.index-seats-i.result c.loop-i-test.true c.index-books-i.is c.loop-i.invariant c.index.result.now in
    walk_next (Waits m c.args.client.now.number c.args.client.now.manner.patient c.args.client.now.manner.machine g.V.Made.made c.args.lines.now c.args.notes.now.lasts.items) (Ended m c.args.client.now.number c.args.client.now.manner.patient c.args.client.now.manner.machine c.args.lines.now) c.args.books.now c.loop-i.seats c.loop-i.i c.index-books-i.result c.leave_one.new.seat c.loop-i-test.true c.index-books-i.is c.loop-i.invariant
    (has_left m c.args.client.now.number c.args.client.now.manner.patient c.args.client.now.manner.machine g.V.Made.made c.args.lines.now c.loop-i.i c.index-books-i.result (get_or c.loop-i.seats c.loop-i.i c.index-seats-i.result) c.leave_one.new.seat (get_or c.args.notes.now.lasts.items c.loop-i.i c.index.result.now) h c.leave_one.ensures.sits (subst (λ v. LeftOne c.args.client.now.number c.index-books-i.result v.how (get_or c.loop-i.seats c.loop-i.i c.index-seats-i.result) c.leave_one.new.seat) c.index.ensures c.leave_one.ensures.left))

pub returns : goal.returns
returns g c = let m : Meaning = g.B.Bench.means c.args.client.now.bench.now in record { ended = walk_end (Waits m c.args.client.now.number c.args.client.now.manner.patient c.args.client.now.manner.machine g.V.Made.made c.args.lines.now c.args.notes.now.lasts.items) (Ended m c.args.client.now.number c.args.client.now.manner.patient c.args.client.now.manner.machine c.args.lines.now) c.args.books.now c.loop-i.seats c.loop-i.i (search rules) c.loop-i.invariant }

use Rattle.std.proofs.Common.{rules, ◌≡◌, ◌<◌, ◌≤◌, ℕ, List, length, get_or}
use Rattle.ch_conduct.specs.Meaning.{Meaning}
use Rattle.ch_builders.specs.Work.{MayWork, WorkedAt}
use Rattle.ch_builders.specs.declared.job.Outcome.TheVariants.{Done, Memory}
use Rattle.ch_seats.proofs.Walking.{row_map, row_here, row_put, walk_init, walk_here, walk_next, walk_end, walk_row}
use Rattle.ch_builders.proofs.Laid.{works_so_far, finished_so_far, keeps_on, done_keeps_on, suffices}
use Rattle.ch_builders.proofs.builder.work.Goals as goal

pub work_at-requires-clause-works : goal.work_at-requires-clause-works
work_at-requires-clause-works g c = let m : Meaning = g.B.Bench.means c.args.builder.now.bench.now in let W = MayWork m c.args.builder.now.number in
    (row_here W W W c.args.books.now c.loop.seats c.in-Ok.session c.index-books-i.result c.index-seats-i.result c.if-i-books.true c.index-books-i.is c.loop.invariant).0

pub returns-in-Memory : goal.returns-in-Memory
returns-in-Memory g c = let m : Meaning = g.B.Bench.means c.args.builder.now.bench.now in let W = MayWork m c.args.builder.now.number in let S = WorkedAt m c.args.builder.now.number Memory in
    record {
      worked = row_put S S S c.args.books.now c.loop.seats c.in-Ok.session c.index-books-i.result c.work_at.new.seat c.if-i-books.true c.index-books-i.is c.in-Memory.ensures.worked
          (row_map W W S c.args.books.now c.loop.seats (works_so_far m c.args.builder.now.number) c.loop.invariant);
    }

pub loop-preserved-in-Done : goal.loop-preserved-in-Done
loop-preserved-in-Done g c = let m : Meaning = g.B.Bench.means c.args.builder.now.bench.now in let n = c.args.builder.now.number in let W = MayWork m n in
    let was = row_here W W W c.args.books.now c.loop.seats c.in-Ok.session c.index-books-i.result c.index-seats-i.result c.if-i-books.true c.index-books-i.is c.loop.invariant in
    row_put W W W c.args.books.now c.loop.seats c.in-Ok.session c.index-books-i.result c.work_at.new.seat c.if-i-books.true c.index-books-i.is
    (done_keeps_on m n c.in-Ok.session c.index-books-i.result (get_or c.loop.seats c.in-Ok.session c.index-seats-i.result) c.work_at.new.seat was c.work_at.ensures.left c.in-Done.ensures.worked) c.loop.invariant

pub loop-preserved-in-More : goal.loop-preserved-in-More
loop-preserved-in-More g c = let m : Meaning = g.B.Bench.means c.args.builder.now.bench.now in let n = c.args.builder.now.number in let W = MayWork m n in
    let was = row_here W W W c.args.books.now c.loop.seats c.in-Ok.session c.index-books-i.result c.index-seats-i.result c.if-i-books.true c.index-books-i.is c.loop.invariant in
    row_put W W W c.args.books.now c.loop.seats c.in-Ok.session c.index-books-i.result c.work_at.new.seat c.if-i-books.true c.index-books-i.is
    (keeps_on m n c.in-Ok.session c.index-books-i.result (get_or c.loop.seats c.in-Ok.session c.index-seats-i.result) c.work_at.new.seat was c.work_at.ensures.left c.in-More.ensures.worked) c.loop.invariant

pub loop-i-init : goal.loop-i-init
loop-i-init g c = let m : Meaning = g.B.Bench.means c.args.builder.now.bench.now in
    walk_init (MayWork m c.args.builder.now.number) (WorkedAt m c.args.builder.now.number Done) c.args.books.now c.loop.seats c.loop.invariant

pub work_at-requires-in-loop-i-clause-works : goal.work_at-requires-in-loop-i-clause-works
work_at-requires-in-loop-i-clause-works g c = let m : Meaning = g.B.Bench.means c.args.builder.now.bench.now in
    (walk_here (MayWork m c.args.builder.now.number) (WorkedAt m c.args.builder.now.number Done) c.args.books.now c.loop-i.seats c.loop-i.i c.index-books-i-in-loop-i.result c.index-seats-i-in-loop-i.result c.loop-i-test.true c.index-books-i-in-loop-i.is c.loop-i.invariant).0

pub returns-in-Memory-work_at : goal.returns-in-Memory-work_at
returns-in-Memory-work_at g c = let m : Meaning = g.B.Bench.means c.args.builder.now.bench.now in let W = MayWork m c.args.builder.now.number in let F = WorkedAt m c.args.builder.now.number Done in let S = WorkedAt m c.args.builder.now.number Memory in
    record {
      worked = row_put S S S c.args.books.now c.loop-i.seats c.loop-i.i c.index-books-i-in-loop-i.result c.work_at-in-loop-i.new.seat c.loop-i-test.true c.index-books-i-in-loop-i.is c.in-Memory-work_at.ensures.worked
          (walk_row W F S c.args.books.now c.loop-i.seats c.loop-i.i (works_so_far m c.args.builder.now.number) (finished_so_far m c.args.builder.now.number) c.loop-i.invariant);
    }

pub loop-i-preserved : goal.loop-i-preserved
loop-i-preserved g c = let m : Meaning = g.B.Bench.means c.args.builder.now.bench.now in let W = MayWork m c.args.builder.now.number in let F = WorkedAt m c.args.builder.now.number Done in
    walk_next W F c.args.books.now c.loop-i.seats c.loop-i.i c.index-books-i-in-loop-i.result c.work_at-in-loop-i.new.seat c.loop-i-test.true c.index-books-i-in-loop-i.is c.loop-i.invariant c.in-Done-work_at.ensures.worked

pub returns : goal.returns
returns g c = let m : Meaning = g.B.Bench.means c.args.builder.now.bench.now in
    record { worked = walk_end (MayWork m c.args.builder.now.number) (WorkedAt m c.args.builder.now.number Done) c.args.books.now c.loop-i.seats c.loop-i.i (search rules) c.loop-i.invariant }

pub unreachable-requires : goal.unreachable-requires
unreachable-requires g c =
    let m : Meaning = g.B.Bench.means c.args.builder.now.bench.now in
    let n = c.args.builder.now.number in
    let more = c.work_at-in-loop-i.ensures.more c.in-More-work_at.is in
    let was = walk_here (MayWork m n) (WorkedAt m n Done) c.args.books.now c.loop-i.seats c.loop-i.i c.index-books-i-in-loop-i.result c.index-seats-i-in-loop-i.result c.loop-i-test.true c.index-books-i-in-loop-i.is c.loop-i.invariant in
    suffices m n c.loop-i.i c.index-books-i-in-loop-i.result (get_or c.loop-i.seats c.loop-i.i c.index-seats-i-in-loop-i.result) c.work_at-in-loop-i.new.seat was c.in-More-work_at.ensures.worked more.0 more.1

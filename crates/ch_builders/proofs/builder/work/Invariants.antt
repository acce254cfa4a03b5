use Rattle.std.proofs.Common.{ℕ}
use Rattle.ch_builders.proofs.builder.work.Given as goal
use Rattle.ch_builders.specs.Work.{MayWork, WorkedAt}
use Rattle.ch_builders.specs.declared.job.Outcome.TheVariants.{Done}
use Rattle.ch_seats.specs.Walk.{Row, Walks}

abbrev pub invariant-loop : goal.invariant-loop
invariant-loop g l = Row (MayWork (g.B.Bench.means l.builder.bench.now) l.builder.number) l.books l.seats

abbrev pub invariant-loop-i : goal.invariant-loop-i
invariant-loop-i g l = Walks (MayWork (g.B.Bench.means l.builder.bench.now) l.builder.number) (WorkedAt (g.B.Bench.means l.builder.bench.now) l.builder.number Done) l.i l.books l.seats

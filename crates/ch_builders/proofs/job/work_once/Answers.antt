use Rattle.std.proofs.Common.{◌≡◌, ℕ, ap, sym, subst}
use Rattle.ch_book.specs.Books.{seen, owns}
use Rattle.ch_builders.proofs.Enough.{turns_kept}
use Rattle.ch_builders.proofs.job.work_once.Goals as goal
use Rattle.ch_conduct.proofs.Building.{claims_none, claims_more, builder_ends, builds_more}
use Rattle.ch_conduct.specs.Conduct.{BuildsSoFar}
use Rattle.ch_conduct.specs.Meaning.{Judge, Meaning, judge_of}
use Rattle.ch_seats.specs.Seated.{theme_in, knows}
use Rattle.ch_turn.specs.Holdings.{own_entries}

pub returns-in-Err-Memory-clause-work : goal.returns-in-Err-Memory-clause-work
returns-in-Err-Memory-clause-work g c =
    let q = rw c.in-Err-Memory.field-0-is at c.in-Err-Memory.ensures.turn in
    let w = c.args.at.now in
    let judge : Judge = judge_of (g.B.Bench.means w.bench.now) w.session in
    claims_none (theme_in w.book.now) judge w.number (knows w.number c.args.seat.now) (knows w.number c.claim.new.seat) q.0 c.requires.sits.known c.requires.builds q.1

pub returns-in-Err-NoJob-clause-work : goal.returns-in-Err-NoJob-clause-work
returns-in-Err-NoJob-clause-work g c =
    let q = rw c.in-Err-NoJob.field-0-is at c.in-Err-NoJob.ensures.turn in
    let w = c.args.at.now in
    let judge : Judge = judge_of (g.B.Bench.means w.bench.now) w.session in
    builder_ends (theme_in w.book.now) judge w.number (knows w.number c.args.seat.now) (knows w.number c.claim.new.seat) q.0 c.requires.sits.known c.requires.builds q.1 q.2

pub returns-in-Err-clause-work : goal.returns-in-Err-clause-work
returns-in-Err-clause-work g c =
    let q = c.in-Ok.ensures.turn in
    let w = c.args.at.now in
    let judge : Judge = judge_of (g.B.Bench.means w.bench.now) w.session in
    subst (λ s. BuildsSoFar (theme_in w.book.now) judge w.number (seen s) (own_entries w.number (owns s))) (sym c.in-Err.ensures.same)
    (claims_more (theme_in w.book.now) judge w.number (knows w.number c.args.seat.now) (knows w.number c.claim.new.seat) q.0 c.in-Ok.job.trial c.requires.sits.known c.requires.builds q.1)

pub returns-in-Ok-build-clause-work : goal.returns-in-Ok-build-clause-work
returns-in-Ok-build-clause-work g c =
    let q = c.in-Ok.ensures.turn in
    let b = c.in-Ok-build.ensures.turn in
    let w = c.args.at.now in
    let judge : Judge = judge_of (g.B.Bench.means w.bench.now) w.session in
    builds_more (theme_in w.book.now) judge w.number (knows w.number c.args.seat.now) (knows w.number c.claim.new.seat) (knows w.number c.build.new.seat) q.0 b.0 c.in-Ok.job.trial c.in-Ok.job.point c.requires.sits.known c.requires.builds q.1 q.2.0 q.2.1 b.1

pub returns-in-Ok-build-clause-kept : goal.returns-in-Ok-build-clause-kept
returns-in-Ok-build-clause-kept g c = λ e.
    let w = c.args.at.now in
    turns_kept w.number c.args.seat.now c.claim.new.seat c.build.new.seat _ _ c.in-Ok.ensures.turn.1.own_is c.in-Ok-build.ensures.turn.1.own_is c.claim.ensures.left c.build.ensures.left

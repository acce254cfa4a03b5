use Rattle.std.proofs.Common.{refl}
use Rattle.std.proofs.lemmas.Bool.{both_ways}
use Rattle.ch_meeting.specs.Meeting.{IsAccessOf, MeetsAt}
use Rattle.ch_depends.proofs.Bests.{item_all}
use Rattle.ch_depends.proofs.Gathered.{no_by, none_all, none_more, some_here, yes_by}
use Rattle.ch_depends.proofs.levels.read_meets.Goals as goal

pub meets_at-requires-clause-accesses : goal.meets_at-requires-clause-accesses
meets_at-requires-clause-accesses c = record {
  first = item_all (λ a. a.now) c.args.reads.now c.args.reads.now refl c.loop-access.access-index c.access-item.result (IsAccessOf c.args.p.now) c.requires.reads c.loop-access-test.true c.access-item.is;
  second = c.requires.other;
}

pub returns-then-branch : goal.returns-then-branch
returns-then-branch c =
    yes_by _
    (some_here (λ a. a.now) (λ a. MeetsAt c.args.p.now c.args.q.now a c.args.q.now.body.write c.args.level) c.args.reads.now c.loop-access.access-index c.access-item.result
    c.loop-access-test.true c.access-item.is (c.in_ok-meets_at.ensures.0 c.if-branch.true))

pub loop-access-preserved : goal.loop-access-preserved
loop-access-preserved c =
    none_more (λ a. a.now) (λ a. MeetsAt c.args.p.now c.args.q.now a c.args.q.now.body.write c.args.level) c.args.reads.now c.loop-access.access-index c.access-item.result
    c.loop-access-test.true c.access-item.is c.loop-access.invariant (λ m. both_ways _ c.if-branch.false (c.in_ok-meets_at.ensures.1 m))

pub returns : goal.returns
returns c =
    no_by _
    (none_all (λ a. a.now) (λ a. MeetsAt c.args.p.now c.args.q.now a c.args.q.now.body.write c.args.level) c.args.reads.now c.loop-access.access-index c.loop-access-test.false c.loop-access.invariant)

use Rattle.std.proofs.Common.{refl}
use Rattle.std.proofs.lemmas.Bool.{both_ways}
use Rattle.ch_meeting.specs.Meeting.{IsAccessOf, MeetsAt}
use Rattle.ch_depends.proofs.Bests.{item_all}
use Rattle.ch_depends.proofs.Gathered.{no_by, none_all, none_more, some_here, yes_by}
use Rattle.ch_depends.proofs.levels.write_meets.Goals as goal

pub meets_at-requires-clause-accesses : goal.meets_at-requires-clause-accesses
meets_at-requires-clause-accesses c = record {
  first = c.requires.access;
  second = item_all (λ a. a.now) c.args.others.now c.args.others.now refl c.loop-other.other-index c.other-item.result (IsAccessOf c.args.q.now) c.requires.others c.loop-other-test.true c.other-item.is;
}

pub returns-then-branch : goal.returns-then-branch
returns-then-branch c =
    yes_by _
    (some_here (λ a. a.now) (λ a. MeetsAt c.args.p.now c.args.q.now c.args.p.now.body.write a c.args.level) c.args.others.now c.loop-other.other-index c.other-item.result
    c.loop-other-test.true c.other-item.is (c.in_ok-meets_at.ensures.0 c.if-branch.true))

pub loop-other-preserved : goal.loop-other-preserved
loop-other-preserved c =
    none_more (λ a. a.now) (λ a. MeetsAt c.args.p.now c.args.q.now c.args.p.now.body.write a c.args.level) c.args.others.now c.loop-other.other-index c.other-item.result
    c.loop-other-test.true c.other-item.is c.loop-other.invariant (λ m. both_ways _ c.if-branch.false (c.in_ok-meets_at.ensures.1 m))

pub returns : goal.returns
returns c =
    no_by _
    (none_all (λ a. a.now) (λ a. MeetsAt c.args.p.now c.args.q.now c.args.p.now.body.write a c.args.level) c.args.others.now c.loop-other.other-index c.loop-other-test.false c.loop-other.invariant)

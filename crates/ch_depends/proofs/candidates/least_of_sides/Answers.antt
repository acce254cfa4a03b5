use Rattle.ch_depends.specs.Sought.{Conflicts, SomeOf, partners_of}
use Rattle.ch_meeting.specs.Meeting.{IsPlain}
use Rattle.ch_depends.proofs.Bests.{item_all, item_end, item_more}
use Rattle.ch_depends.proofs.Unrelated.{none_reversed}
use Rattle.ch_depends.proofs.candidates.least_of_sides.Goals as goal

pub least_after-requires-clause-r : goal.least_after-requires-clause-r
least_after-requires-clause-r c =
    item_all (λ r. r.now) c.as_slice-r-items.result.now c.args.from.now.partners c.as_slice-r-items.ensures c.loop-r.r-index c.r-item.result IsPlain c.requires.from.partners c.loop-r-test.true c.r-item.is

pub loop-r-preserved : goal.loop-r-preserved
loop-r-preserved c =
    item_more (λ r. r.now) c.as_slice-r-items.result.now c.args.from.now.partners c.as_slice-r-items.ensures c.loop-r.r-index c.r-item.result
    (λ u. SomeOf (partners_of c.args.to.now) (Conflicts c.args.from.now.piece.now c.args.to.now.piece.now u)) c.loop-r.best c.in_ok-least_after.field-0 c.lesser-best.result
    c.loop-r-test.true c.r-item.is c.lesser-best.ensures c.loop-r.invariant c.in_ok-least_after.ensures

pub returns : goal.returns
returns c =
    item_end (λ r. r.now) c.as_slice-r-items.result.now c.args.from.now.partners c.as_slice-r-items.ensures c.loop-r.r-index
    (λ u. SomeOf (partners_of c.args.to.now) (Conflicts c.args.from.now.piece.now c.args.to.now.piece.now u))
    c.loop-r.best c.loop-r-test.false c.loop-r.invariant

pub returns-then-not-branch : goal.returns-then-not-branch
returns-then-not-branch c = none_reversed c.args.from.now c.args.to.now c.in_ok-may_depend.field-0 c.in_ok-may_depend.ensures c.if-not-branch.true

use Rattle.ch_depends.specs.Sought.{Conflicts}
use Rattle.ch_meeting.specs.Meeting.{IsPlain}
use Rattle.ch_depends.proofs.Bests.{item_all, item_end, item_more}
use Rattle.ch_depends.proofs.candidates.least_after.Goals as goal

pub least_between-requires-clause-s : goal.least_between-requires-clause-s
least_between-requires-clause-s c =
    item_all (λ r. r.now) c.as_slice-s-items.result.now c.args.to.now.partners c.as_slice-s-items.ensures c.loop-s.s-index c.s-item.result IsPlain c.requires.to.partners c.loop-s-test.true c.s-item.is

pub loop-s-preserved : goal.loop-s-preserved
loop-s-preserved c =
    item_more (λ r. r.now) c.as_slice-s-items.result.now c.args.to.now.partners c.as_slice-s-items.ensures c.loop-s.s-index c.s-item.result
    (Conflicts c.args.from.now.piece.now c.args.to.now.piece.now c.args.r.now) c.loop-s.best c.in_ok-least_between.field-0 c.lesser-best.result
    c.loop-s-test.true c.s-item.is c.lesser-best.ensures c.loop-s.invariant c.in_ok-least_between.ensures

pub returns : goal.returns
returns c =
    item_end (λ r. r.now) c.as_slice-s-items.result.now c.args.to.now.partners c.as_slice-s-items.ensures c.loop-s.s-index (Conflicts c.args.from.now.piece.now c.args.to.now.piece.now c.args.r.now)
    c.loop-s.best c.loop-s-test.false c.loop-s.invariant

use Rattle.ch_depends.specs.Sought.{Reverses}
use Rattle.ch_meeting.specs.Meeting.{IsAccessOf}
use Rattle.std.proofs.Common.{refl}
use Rattle.ch_depends.proofs.Bests.{item_all, item_end, item_more}
use Rattle.ch_depends.proofs.candidates.least_with_reads.Goals as goal

pub least_by-requires-clause-accesses : goal.least_by-requires-clause-accesses
least_by-requires-clause-accesses c = record {
  first = c.requires.access;
  second = item_all (λ a. a.now) c.args.others.now c.args.others.now refl c.loop-other.other-index c.other-item.result (IsAccessOf c.args.pieces.now.second.now) c.requires.others c.loop-other-test.true c.other-item.is;
}

pub loop-other-preserved : goal.loop-other-preserved
loop-other-preserved c =
    item_more (λ a. a.now) c.args.others.now c.args.others.now refl c.loop-other.other-index c.other-item.result
    (Reverses c.args.pieces.now.first.now c.args.pieces.now.second.now c.args.pieces.now.new_first.now c.args.pieces.now.new_second.now c.args.pieces.now.first.now.body.write) c.loop-other.best c.in_ok-least_by.field-0 c.lesser-best.result
    c.loop-other-test.true c.other-item.is c.lesser-best.ensures c.loop-other.invariant c.in_ok-least_by.ensures

pub returns : goal.returns
returns c =
    item_end (λ a. a.now) c.args.others.now c.args.others.now refl c.loop-other.other-index (Reverses c.args.pieces.now.first.now c.args.pieces.now.second.now c.args.pieces.now.new_first.now c.args.pieces.now.new_second.now c.args.pieces.now.first.now.body.write)
    c.loop-other.best c.loop-other-test.false c.loop-other.invariant

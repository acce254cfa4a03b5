use Rattle.ch_depends.specs.Sought.{Reverses}
use Rattle.ch_meeting.specs.Meeting.{IsAccessOf}
use Rattle.std.proofs.Common.{refl}
use Rattle.ch_depends.proofs.Bests.{item_all, item_end, item_more}
use Rattle.ch_depends.proofs.candidates.least_with_write.Goals as goal

pub least_by-requires-clause-accesses : goal.least_by-requires-clause-accesses
least_by-requires-clause-accesses c = record {
  first = item_all (λ a. a.now) c.args.reads.now c.args.reads.now refl c.loop-access.access-index c.access-item.result (IsAccessOf c.args.pieces.now.first.now) c.requires.reads c.loop-access-test.true c.access-item.is;
  second = c.requires.other;
}

pub loop-access-preserved : goal.loop-access-preserved
loop-access-preserved c =
    item_more (λ a. a.now) c.args.reads.now c.args.reads.now refl c.loop-access.access-index c.access-item.result
    (λ a. Reverses c.args.pieces.now.first.now c.args.pieces.now.second.now c.args.pieces.now.new_first.now c.args.pieces.now.new_second.now a c.args.pieces.now.second.now.body.write) c.loop-access.best c.in_ok-least_by.field-0 c.lesser-best.result
    c.loop-access-test.true c.access-item.is c.lesser-best.ensures c.loop-access.invariant c.in_ok-least_by.ensures

pub returns : goal.returns
returns c =
    item_end (λ a. a.now) c.args.reads.now c.args.reads.now refl c.loop-access.access-index (λ a. Reverses c.args.pieces.now.first.now c.args.pieces.now.second.now c.args.pieces.now.new_first.now c.args.pieces.now.new_second.now a c.args.pieces.now.second.now.body.write)
    c.loop-access.best c.loop-access-test.false c.loop-access.invariant

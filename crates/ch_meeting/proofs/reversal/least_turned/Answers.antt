use Rattle.std.proofs.Common.{◌∙◌, sym, subst}
use Rattle.ch_meeting.specs.Asked.{AreReversalOf, Asks, IsReversalByOf, boxes_of}
use Rattle.ch_meeting.proofs.Reversals.{least_all, least_more}
use Rattle.ch_meeting.proofs.reversal.least_turned.Goals as goal

pub least_by-requires-clause-asks : goal.least_by-requires-clause-asks
least_by-requires-clause-asks c =
    subst (λ d. Asks d (boxes_of c.args.pieces.now c.args.accesses.now) (AreReversalOf c.args.pieces.now c.args.accesses.now)) (sym c.loop-turn.invariant.draft) c.requires.asks

pub loop-turn-preserved : goal.loop-turn-preserved
loop-turn-preserved c = record {
  least = least_more c.args.pieces.now.first.now.levels (λ t. IsReversalByOf c.args.order t c.args.pieces.now c.args.accesses.now) c.args.turns.now c.loop-turn.turn-index _ c.loop-turn.least c.in_ok-next.next c.lesser-least.result
      c.loop-turn-test.true c.loop-turn.invariant.least c.in_ok-next.ensures.least c.lesser-least.ensures;
  draft = c.in_ok-next.ensures.draft ∙ c.loop-turn.invariant.draft;
}

pub returns-clause-least : goal.returns-clause-least
returns-clause-least c = least_all c.args.pieces.now.first.now.levels (λ t. IsReversalByOf c.args.order t c.args.pieces.now c.args.accesses.now) c.args.turns.now c.loop-turn.turn-index c.loop-turn.least c.loop-turn-test.false c.loop-turn.invariant.least

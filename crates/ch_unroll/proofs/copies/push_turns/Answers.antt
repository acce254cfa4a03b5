use Rattle.ch_unroll.proofs.Pushing.{next_turns}
use Rattle.ch_unroll.proofs.copies.push_turns.Goals as goal

pub loop-remainder-preserved : goal.loop-remainder-preserved
loop-remainder-preserved c =
    next_turns c.args.layout c.args.piece.now c.loop-remainder.remainder c.args.candidates.now c.loop-remainder.candidates c.push.new.self c.in_ok-turn.field-0 c.loop-remainder.invariant c.in_ok-turn.ensures c.in_ok-push.ensures.ok

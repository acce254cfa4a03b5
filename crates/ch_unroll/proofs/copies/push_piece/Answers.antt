use Rattle.ch_unroll.proofs.Pushing.{push_copy}
use Rattle.ch_unroll.proofs.copies.push_piece.Goals as goal

pub returns-in_ok-copy : goal.returns-in_ok-copy
returns-in_ok-copy c =
    push_copy c.push.result c.args.layout c.args.piece.now c.args.is_unrolled c.args.candidates.now c.push.new.self c.in_ok-copy.field-0 c.if-is_unrolled.false c.in_ok-copy.ensures c.push.ensures.ok

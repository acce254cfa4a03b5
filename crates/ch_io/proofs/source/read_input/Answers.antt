use Rattle.std.proofs.Common.{arith, length-take}
use Rattle.ch_io.proofs.InputRead.{loses_more}
use Rattle.ch_io.proofs.source.read_input.Goals as goal

pub returns-then-is_err-clause-front : goal.returns-then-is_err-clause-front
returns-then-is_err-clause-front g c =
    loses_more _ _ _ c.loop-buf.input.items _ c.args.most c.loop-buf.invariant.bytes c.in-Ok.ensures.bytes
    (grind (arith, length-take, c.in-Ok.ensures.bound, c.min-wanted.ensures, c.loop-buf-test.true))

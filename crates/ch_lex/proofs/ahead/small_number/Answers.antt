use Rattle.std.proofs.Common.{arith, sym}
use Rattle.ch_lex.proofs.Numbers.{too_large}
use Rattle.ch_lex.proofs.ahead.small_number.Goals as goal

pub returns-then-number-gt-MOST_NUMBER : goal.returns-then-number-gt-MOST_NUMBER
returns-then-number-gt-MOST_NUMBER c =
    sym (too_large c.args.first c.args.others.now c.loop-digit.number c.loop-digit.digit-index _ c.loop-digit-test.true (omega arith)
    c.if-number-gt-MOST_NUMBER.true c.loop-digit.invariant.rest)

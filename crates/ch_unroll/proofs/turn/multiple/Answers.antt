use Rattle.std.proofs.Common.{arith}
use Rattle.std.proofs.lemmas.Int.{ints}
use Rattle.ch_unroll.proofs.Forms.{multiple_is_small}
use Rattle.ch_unroll.proofs.turn.multiple.Goals as goal

pub invariant_of-result : goal.invariant_of-result
invariant_of-result c =
    multiple_is_small c.args.before c.args.after c.args.amount c.args.remainder c.new-coefs.result c.push_zeros.new.numbers c.push.new.self c.push_zeros-2.new.numbers _ _ c.requires
    (omega arith) (omega arith) c.new-coefs.ensures c.in_ok-push_zeros.ensures (omega (arith, ints)) c.in_ok-push.ensures.ok c.in_ok-push_zeros-2.ensures (omega (arith, ints))

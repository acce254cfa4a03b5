use Rattle.std.proofs.Common.{arith, w64}
use Rattle.std.proofs.lemmas.Int.{to_z_pos}
use Rattle.ch_nest.proofs.Flattens.{plain_everywhere, zeros_small}
use Rattle.ch_nest.proofs.plan.plain.Goals as goal

pub invariant_of-result : goal.invariant_of-result
invariant_of-result c =
    let constant = to_z_pos w64 c.args.constant (omega (arith, c.requires.constant)) in
    record {
      few = omega (arith, c.loop-k.invariant.same, c.requires.depth, c.loop-k.auto._k-end);
      coefs = zeros_small c.loop-k.coefs c.loop-k.invariant.zeros;
      constant = rw constant (omega (arith, c.requires.constant));
    }

pub returns : goal.returns
returns c =
    let constant = to_z_pos w64 c.args.constant (omega (arith, c.requires.constant)) in
    record {
      same = omega (arith, c.loop-k.invariant.same, c.loop-k-test.false, c.loop-k.auto._k-end);
      everywhere = plain_everywhere c.loop-k.coefs c.args.constant _ c.loop-k.invariant.zeros constant;
    }

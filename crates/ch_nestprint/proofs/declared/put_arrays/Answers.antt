use Rattle.std.proofs.Common.{◌≡◌, length, min, arith}
use Rattle.ch_nestprint.proofs.Further.{no_array}
use Rattle.ch_nestprint.proofs.declared.put_arrays.Goals as goal

pub returns : goal.returns
returns c =
    let all : c.loop-i.i ≡ min (length c.args.arrays.now) (length c.args.fills.now) = omega arith in
    no_array c.args.arrays.now c.args.fills.now c.loop-i.i c.loop-i.out _ all c.loop-i.invariant

use Rattle.std.proofs.Common.{arith}
use Rattle.std.proofs.lemmas.Int.{ints}
use Rattle.ch_space.proofs.Turning.{turned_small}
use Rattle.ch_space.proofs.extremes.negated_row.Goals as goal

pub invariant_of-result : goal.invariant_of-result
invariant_of-result c =
    let coefs = rw c.as_slice.ensures at c.in_ok-coefs.ensures in
    let small = turned_small _ c.row.invariant in
    record { few = rw coefs small.few; coefs = rw coefs small.coefs; constant = omega (arith, ints, c.row.invariant.constant) }

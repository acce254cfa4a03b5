use Rattle.std.proofs.Common.{ap, length, arith}
use Rattle.ch_affine.specs.Rows.{system}
use Rattle.ch_space.proofs.Turning.{system_turned}
use Rattle.ch_space.proofs.extremes.negated_system.Goals as goal

pub invariant_of-result : goal.invariant_of-result
invariant_of-result c =
    let same = ap length c.as_slice-row-items.ensures in
    let last = c.loop-row-test.false in
    system_turned (system c.system.inside.vars c.system.inside.rows c.system.inside.boxes) c.loop-row.rows c.in_ok-boxes.boxes c.as_slice.result.now c.loop-row.row-index c.system.invariant
    c.loop-row.invariant (omega arith) c.in_ok-boxes.ensures c.as_slice.ensures

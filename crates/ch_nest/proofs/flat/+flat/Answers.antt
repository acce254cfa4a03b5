use Rattle.std.proofs.Common.{rules, SFits, w64, arith, to_z, ◌≤ℤ◌, ◌≤◌}
use Rattle.std.specs.Int.{w128}
use Rattle.std.proofs.lemmas.Int.{ints, to_z-of_z}
use Rattle.ch_nest.proofs.FlatRuns.{flat_turn}
use Rattle.ch_nest.proofs.flat.+flat.Goals as goal

pub run_flat-turns-preserved : goal.run_flat-turns-preserved
run_flat-turns-preserved t c =
    let l : SFits w128 c.low_at-value.result = search rules in
    let h : SFits w128 c.high_at-high.result = search rules in
    let v : SFits w128 (to_z w128 c.turns.value-bits) = search rules in
    let w : SFits w128 c.raised-value.result = search rules in
    let from = simp to_z-of_z at c.turns.invariant.from in
    let not_past = simp to_z-of_z at c.turns-test.true in
    let to : to_z w128 c.turns.value-bits ≤ℤ c.high_at-high.result = grind (arith, ints) in
    let next = c.raised-value.ensures in
    let n : SFits w64 c.near.result = search rules in
    let near = c.near.ensures in
    let inner = rw near at (simp to_z-of_z at c.moved-inner.ensures) in
    let rest = simp to_z-of_z at c.turns.invariant.rest in
    let here = rw c.as_slice-in-turns.ensures at c.run_flats.ensures in
    let some : 1 ≤ c.in-Loop.step = omega (arith, c.if-step-eq0.false) in
    record {
      from = simp to_z-of_z (rw next (omega (arith, ints, from)));
      rest = simp to_z-of_z (rw next (flat_turn c.in-Loop.items c.args.point.now _ c.turns.cells c.run_flats.new.cells _ c.in-Loop.level c.in-Loop.step (to_z w128 c.turns.value-bits) c.high_at-high.result some to
          inner here rest));
    }

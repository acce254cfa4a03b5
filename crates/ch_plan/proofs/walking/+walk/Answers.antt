use Rattle.std.proofs.Common.{◌≡◌, ◌∙◌, ap, length, map, sym, rules, SFits, arith, w64, to_z, of_z}
use Rattle.std.specs.Int.{w128}
use Rattle.std.proofs.lemmas.Int.{to_z-of_z}
use Rattle.std.proofs.lemmas.List.{length-set}
use Rattle.ch_plan.proofs.Turning.{loop_done, meter_done, meter_turn, plan_turn, set_back, set_more}
use Rattle.ch_plan.specs.Planned.{machine_of, spot_place, spots, state}
use Rattle.ch_plan.proofs.Touching.{leaf_depth}
use Rattle.ch_plan.proofs.walking.+walk.Goals as goal

pub walk-loop-k-preserved : goal.walk-loop-k-preserved
walk-loop-k-preserved t c =
    let g : SFits w128 c.greatest_low-low.result = search rules in
    let n : SFits w64 c.nth_between.result = search rules in
    let x = simp to_z-of_z at c.nth_between.ensures in
    let is = simp to_z-of_z at c.written.ensures in
    let before = simp to_z-of_z at c.loop-k.invariant.cells in
    let here = rw c.get.ensures at c.walk.ensures.cells in
    let meter = simp to_z-of_z at c.loop-k.invariant.meter in
    let shown = rw c.get.ensures at c.walk.ensures.meter in
    let room = c.walk.ensures.room ∙ c.loop-k.invariant.room in
    let point = set_more c.args.point.now c.loop-k.point c.walk.new.point c.in-Loop.level c.nth_between.result c.loop-k.invariant.point (c.walk.ensures.point ∙ is) in
    let long = ap length (c.walk.ensures.point ∙ is) ∙ length-set c.loop-k.point c.in-Loop.level c.nth_between.result ∙ c.loop-k.invariant.long in
    let cells = plan_turn c.args.setting.now.vars c.args.setting.now.rows c.in-Loop.inner c.args.point.now c.loop-k.point c.written.new.numbers c.loop-k.cells c.walk.new.cells
    c.args.cells.now c.in-Loop.level c.loop-k.k c.greatest_low-low.result c.nth_between.result x c.loop-k.invariant.point is before here in
    let next = meter_turn c.args.setting.now c.in-Loop.inner c.args.point.now c.loop-k.point c.written.new.numbers _ _ _ c.in-Loop.level c.loop-k.k c.greatest_low-low.result c.nth_between.result x
    c.loop-k.invariant.point is meter shown in
    record {
      room = room;
      point = point;
      cells = simp to_z-of_z cells;
      depth = c.walk.ensures.depth ∙ ap length is ∙ length-set c.loop-k.point c.in-Loop.level c.nth_between.result ∙ c.loop-k.invariant.long;
      long = long;
      meter = simp to_z-of_z next;
    }

pub walk-returns-after-loop-k-clause-point : goal.walk-returns-after-loop-k-clause-point
walk-returns-after-loop-k-clause-point t c =
    let b : SFits w64 c.read-before.result = search rules in
    let is = simp to_z-of_z at c.written-in-Loop.ensures in
    set_back c.args.point.now c.loop-k.point c.written-in-Loop.new.numbers c.in-Loop.level c.read-before.result c.loop-k.invariant.point c.read-before.ensures is

pub walk-returns-after-loop-k-clause-cells : goal.walk-returns-after-loop-k-clause-cells
walk-returns-after-loop-k-clause-cells t c =
    let l : SFits w128 c.greatest_low-low.result = search rules in
    let h : SFits w128 c.least_high-high.result = search rules in
    let low = rw c.as_slice-in-Loop.ensures at c.greatest_low-low.ensures in
    let high = rw c.as_slice-in-Loop-2.ensures at c.least_high-high.ensures in
    let inv = simp to_z-of_z at c.loop-k.invariant.cells in
    let n = simp to_z-of_z at c.turns_between-turns.ensures in
    loop_done c.args.setting.now.vars c.args.setting.now.rows c.args.plan.now c.in-Loop.level c.in-Loop.lows c.in-Loop.highs c.in-Loop.inner c.args.point.now c.args.cells.now c.loop-k.cells
    c.turns_between-turns.result c.loop-k.k c.greatest_low-low.result c.least_high-high.result c.in-Loop.is low high n (omega arith) inv

pub walk-returns-after-loop-k-clause-meter : goal.walk-returns-after-loop-k-clause-meter
walk-returns-after-loop-k-clause-meter t c =
    let l : SFits w128 c.greatest_low-low.result = search rules in
    let h : SFits w128 c.least_high-high.result = search rules in
    let low = rw c.as_slice-in-Loop.ensures at c.greatest_low-low.ensures in
    let high = rw c.as_slice-in-Loop-2.ensures at c.least_high-high.ensures in
    let inv = simp to_z-of_z at c.loop-k.invariant.meter in
    let n = simp to_z-of_z at c.turns_between-turns.ensures in
    meter_done c.args.setting.now c.args.plan.now c.in-Loop.level c.in-Loop.lows c.in-Loop.highs c.in-Loop.inner c.args.point.now _ _
    c.turns_between-turns.result c.loop-k.k c.greatest_low-low.result c.least_high-high.result c.in-Loop.is low high n (omega arith) inv

pub walk-returns-in-Leaf-clause-depth : goal.walk-returns-in-Leaf-clause-depth
walk-returns-in-Leaf-clause-depth t c =
    leaf_depth (machine_of c.args.setting.now) c.spot_place-place.result (map (spot_place c.args.point.now) (spots c.in-Leaf.right)) (state c.begin.new.tally) (state c.right_value-value.new.tally) (state c.touch.new.tally) c.args.point.now
    (ap (λ z. z.last) c.begin.ensures) c.right_value-value.ensures.meter c.touch.ensures

use Rattle.std.proofs.Common.{rules, SFits, w64, ◌*ℤ◌}
use Rattle.std.specs.Int.{w128}
use Rattle.std.proofs.lemmas.Int.{to_z-of_z}
use Rattle.ch_plan.specs.Planned.{sum_value}
use Rattle.ch_plan.proofs.Weighing.{added_is}
use Rattle.ch_plan.proofs.sums.weight_added.Goals as goal

pub returns : goal.returns
returns c =
    let f : SFits w64 c.args.weight.now.coef = search rules in
    let x : SFits w64 c.sum_value-x.result = search rules in
    let t : SFits w128 c.wide_times.result = search rules in
    let p : SFits w128 c.wide_plus.result = search rules in
    let a : SFits w128 c.from.result = search rules in
    let b : SFits w128 c.from-2.result = search rules in
    let s : SFits w128 c.args.total = c.ranges.total in
    let x = rw c.sum_value-x.ensures at (simp to_z-of_z at c.from-2.ensures) in
    let y = simp to_z-of_z at c.from.ensures in
    let here = rw (x, y) at (simp to_z-of_z at c.wide_times.ensures) in
    let next = simp to_z-of_z at c.wide_plus.ensures in
    simp to_z-of_z (added_is w128 c.args.total (c.args.weight.now.coef *ℤ sum_value c.args.weight.now.sum c.args.point.now) c.wide_times.result c.wide_plus.result here next)

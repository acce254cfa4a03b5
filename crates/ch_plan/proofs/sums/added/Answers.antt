use Rattle.std.proofs.Common.{rules, SFits, w64, ◌*ℤ◌}
use Rattle.std.proofs.lemmas.Int.{to_z-of_z}
use Rattle.ch_plan.specs.Planned.{at}
use Rattle.ch_plan.proofs.Weighing.{added_is}
use Rattle.ch_plan.proofs.sums.added.Goals as goal

pub returns : goal.returns
returns c =
    let f : SFits w64 c.args.term.now.coef = search rules in
    let x : SFits w64 c.read-x.result = search rules in
    let t : SFits w64 c.times.result = search rules in
    let p : SFits w64 c.plus.result = search rules in
    let s : SFits w64 c.args.total = c.ranges.total in
    let here = rw c.read-x.ensures at (simp to_z-of_z at c.times.ensures) in
    let next = simp to_z-of_z at c.plus.ensures in
    simp to_z-of_z (added_is w64 c.args.total (c.args.term.now.coef *ℤ at c.args.point.now c.args.term.now.level) c.times.result c.plus.result here next)

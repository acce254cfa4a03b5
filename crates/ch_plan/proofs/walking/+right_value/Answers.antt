use Rattle.std.proofs.Common.{◌≡◌}
use Rattle.ch_plan.specs.Planned.{machine_of, state}
use Rattle.ch_plan.proofs.Touching.{after_both, spots_add, spots_sub, spots_mul}
use Rattle.ch_plan.proofs.walking.+right_value.Goals as goal

pub returns-in-Add-clause-meter : goal.returns-in-Add-clause-meter
returns-in-Add-clause-meter t c =
    let left = rw c.get-in-Add.ensures at c.right_value-left.ensures.meter in
    let right = rw c.get-in-Add-2.ensures at c.right_value-right.ensures.meter in
    after_both (machine_of c.args.setting.now) c.args.point.now c.args.right.now c.in-Add.x c.in-Add.y (state c.args.tally.now) _ _
    (spots_add c.args.right.now c.in-Add.x c.in-Add.y c.in-Add.is) left right

pub returns-in-Sub-clause-meter : goal.returns-in-Sub-clause-meter
returns-in-Sub-clause-meter t c =
    let left = rw c.get-in-Sub.ensures at c.right_value-left-in-Sub.ensures.meter in
    let right = rw c.get-in-Sub-2.ensures at c.right_value-right-in-Sub.ensures.meter in
    after_both (machine_of c.args.setting.now) c.args.point.now c.args.right.now c.in-Sub.x c.in-Sub.y (state c.args.tally.now) _ _
    (spots_sub c.args.right.now c.in-Sub.x c.in-Sub.y c.in-Sub.is) left right

pub returns-in-Mul-clause-meter : goal.returns-in-Mul-clause-meter
returns-in-Mul-clause-meter t c =
    let left = rw c.get-in-Mul.ensures at c.right_value-left-in-Mul.ensures.meter in
    let right = rw c.get-in-Mul-2.ensures at c.right_value-right-in-Mul.ensures.meter in
    after_both (machine_of c.args.setting.now) c.args.point.now c.args.right.now c.in-Mul.x c.in-Mul.y (state c.args.tally.now) _ _
    (spots_mul c.args.right.now c.in-Mul.x c.in-Mul.y c.in-Mul.is) left right

use Rattle.std.proofs.Common.{SFits, w64, rules, pos, ◌-ℤ◌, arith}
use Rattle.std.proofs.lemmas.Int.{ints, to_z-of_z}
use Rattle.ch_affine.specs.Rows.{all_hold}
use Rattle.ch_space.proofs.Builds.{negated_number}
use Rattle.ch_moved.proofs.Bounded.{bounds_done}
use Rattle.ch_moved.proofs.bounds.push_bounds.Goals as goal

pub returns-clause-hold : goal.returns-clause-hold
returns-clause-hold c =
    let l : SFits w64 c.args.range.low = search rules in
    let h : SFits w64 c.args.range.high = search rules in
    let large = c.requires.range.high in
    let m : SFits w64 (pos 0 -ℤ c.args.range.high) = omega (arith, ints, large) in
    bounds_done c.push_bound-2.result c.args.boxes.now c.args.form.now c.in_ok-opposite.opposite c.args.range.low c.args.range.high (pos 0 -ℤ c.args.range.high) (all_hold c.args.rows.now)
    (all_hold c.push_bound.new.rows) (all_hold c.push_bound-2.new.rows) c.in_ok-opposite.ensures (negated_number c.args.range.high)
    (simp to_z-of_z at c.in_ok-push_bound.ensures.hold) (simp to_z-of_z at c.push_bound-2.ensures.hold)

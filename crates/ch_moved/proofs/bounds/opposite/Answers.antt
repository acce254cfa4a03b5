use Rattle.std.proofs.Common.{◌≤◌, SFits, w64, rules, pos, ◌-ℤ◌, length, arith}
use Rattle.std.proofs.lemmas.Int.{ints, to_z-of_z}
use Rattle.ch_space.proofs.Builds.{negated_number}
use Rattle.ch_moved.proofs.Bounded.{opposite_small}
use Rattle.ch_moved.proofs.bounds.opposite.Goals as goal

pub invariant_of-result : goal.invariant_of-result
invariant_of-result c =
    let constant = c.form.invariant.constant in
    let f : SFits w64 c.form.inside.constant = search rules in
    let g : SFits w64 (pos 0 -ℤ c.form.inside.constant) = omega (arith, ints, constant) in
    let past : length c.form.inside.coefs ≤ c.loop-coef.coef-index = rw c.as_slice-coef-items.ensures at c.loop-coef-test.false in
    opposite_small (record { coefs = c.form.inside.coefs; constant = c.form.inside.constant }) c.args.form.now c.loop-coef.coefs c.loop-coef.coef-index _ c.form.invariant c.form.view_is past c.loop-coef.invariant
    (simp to_z-of_z (negated_number c.form.inside.constant))

use Rattle.std.proofs.Common.{SFits, w64, rules, pos, ◌-ℤ◌, arith}
use Rattle.std.proofs.lemmas.Int.{ints, to_z-of_z}
use Rattle.ch_space.proofs.Builds.{low_small, negated_number}
use Rattle.ch_space.proofs.rows.low_row.Goals as goal

pub invariant_of-result : goal.invariant_of-result
invariant_of-result c =
    let constant = c.form.invariant.constant in
    let f : SFits w64 c.form.inside.constant = search rules in
    let g : SFits w64 (pos 0 -ℤ c.form.inside.constant) = omega (arith, ints, constant) in
    low_small c.args.loops (record { coefs = c.form.inside.coefs; constant = c.form.inside.constant }) c.args.form.now c.as_slice.result.now c.in_ok-coefs.coefs _ _ _ c.form.invariant c.form.view_is c.requires.around c.requires.few
    c.as_slice.ensures c.in_ok-coefs.ensures c.in_ok-push.ensures.ok c.in_ok-push_padding.ensures (simp to_z-of_z (negated_number c.form.inside.constant))

use Rattle.std.proofs.Common.{SFits, w64, rules, pos, neg_ℤ, ◌-ℤ◌, ◌≡◌, ◌<◌, length, ap, subst, sym, to_z, of_z, arith}
use Rattle.std.proofs.lemmas.Int.{ints, to_z-of_z}
use Rattle.ch_affine.specs.Form.{Form}
use Rattle.ch_space.proofs.Builds.{low_front, negated_number, negated_step, step_back, steps_low_small}
use Rattle.ch_space.proofs.rows.steps_low.Goals as goal

pub push_padding-requires-2 : goal.push_padding-requires-2
push_padding-requires-2 c =
    let f : Form = record { coefs = c.form.inside.coefs; constant = c.form.inside.constant } in
    let short : length f.coefs < c.args.at = subst (λ n. n < c.args.at) (sym (ap (λ (g : Form). length g.coefs) c.form.view_is)) c.requires.around in
    step_back c.args.at c.args.loops c.push.new.self c.push_padding.new.coefs c.push-2.new.self _
    (low_front f c.as_slice.result.now c.in_ok-coefs.coefs c.push.new.self c.args.at short c.as_slice.ensures c.in_ok-coefs.ensures c.in_ok-push.ensures.ok)
    c.requires.hidden c.in_ok-push_padding.ensures c.in_ok-push-2.ensures.ok

pub invariant_of-result : goal.invariant_of-result
invariant_of-result c =
    let constant = c.form.invariant.constant in
    let small = c.requires.step in
    let s : SFits w64 c.from.result = search rules in
    let step : c.from.result ≡ pos c.args.step = c.from.ensures in
    let n : SFits w64 (pos 0 -ℤ c.from.result) = negated_step c.from.result c.args.step step small in
    let f : SFits w64 c.form.inside.constant = search rules in
    let g : SFits w64 (pos 0 -ℤ c.form.inside.constant) = omega (arith, ints, constant) in
    steps_low_small c.args.loops c.args.at c.args.step (record { coefs = c.form.inside.coefs; constant = c.form.inside.constant }) c.args.form.now c.as_slice.result.now c.in_ok-coefs.coefs c.push.new.self
    c.push_padding.new.coefs c.push-2.new.self _ _ _ c.form.invariant c.form.view_is c.requires.around c.requires.hidden c.requires.few c.requires.step
    c.as_slice.ensures c.in_ok-coefs.ensures c.in_ok-push.ensures.ok c.in_ok-push_padding.ensures (simp to_z-of_z (rw step (negated_number (pos c.args.step)))) c.in_ok-push-2.ensures.ok c.in_ok-push_padding-2.ensures
    (simp to_z-of_z (negated_number c.form.inside.constant))

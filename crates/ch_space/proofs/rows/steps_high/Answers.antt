use Rattle.std.proofs.Common.{SFits, w64, rules, refl, length, ap, subst, sym, ◌<◌, pos}
use Rattle.std.proofs.lemmas.Int.{to_z-of_z}
use Rattle.ch_affine.specs.Form.{Form}
use Rattle.ch_space.proofs.Builds.{high_front, step_back, steps_high_small}
use Rattle.ch_space.proofs.rows.steps_high.Goals as goal

pub push_padding-requires-2 : goal.push_padding-requires-2
push_padding-requires-2 c =
    let f : Form = record { coefs = c.form.inside.coefs; constant = c.form.inside.constant } in
    let short : length f.coefs < c.args.at = subst (λ n. n < c.args.at) (sym (ap (λ (g : Form). length g.coefs) c.form.view_is)) c.requires.around in
    step_back c.args.at c.args.loops c.push.new.self c.push_padding.new.coefs c.push-2.new.self _
    (high_front f c.as_slice.result.now c.in_ok-coefs.coefs c.push.new.self c.args.at short c.as_slice.ensures c.in_ok-coefs.ensures c.in_ok-push.ensures.ok)
    c.requires.hidden c.in_ok-push_padding.ensures c.in_ok-push-2.ensures.ok

pub invariant_of-result : goal.invariant_of-result
invariant_of-result c =
    let f : SFits w64 c.form.inside.constant = search rules in
    let s : SFits w64 c.from.result = search rules in
    let pushed = simp to_z-of_z at c.in_ok-push-2.ensures.ok in
    steps_high_small c.args.loops c.args.at c.args.step (record { coefs = c.form.inside.coefs; constant = c.form.inside.constant }) c.args.form.now c.as_slice.result.now c.in_ok-coefs.coefs c.push.new.self
    c.push_padding.new.coefs c.push-2.new.self _ _ _ c.form.invariant c.form.view_is c.requires.around c.requires.hidden c.requires.few c.requires.step
    c.as_slice.ensures c.in_ok-coefs.ensures c.in_ok-push.ensures.ok c.in_ok-push_padding.ensures c.from.ensures pushed c.in_ok-push_padding-2.ensures (simp to_z-of_z refl)

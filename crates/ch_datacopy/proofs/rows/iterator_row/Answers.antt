use Rattle.std.proofs.Common.{◌+◌, ◌-◌, ◌<◌, SFits, w64, ap, ◌∙◌, length, rules, refl, arith}
use Rattle.std.proofs.lemmas.Int.{to_z-of_z}
use Rattle.ch_affine.specs.Form.{Form}
use Rattle.ch_datacopy.proofs.SmallRows.{iterator_made}
use Rattle.ch_datacopy.proofs.rows.iterator_row.Goals as goal

pub invariant_of-result : goal.invariant_of-result
invariant_of-result c =
    let f : SFits w64 c.form.inside.constant = search rules in
    let k : c.args.k < c.args.frame.iters = c.requires.k in
    let around = c.requires.around in
    let inner = c.requires.inner in
    let room = c.requires.room in
    let many = c.len-levels.ensures ∙ ap (λ (g : Form). length g.coefs) c.form.view_is in
    iterator_made c.args.frame.around c.args.frame.cells ((c.args.frame.around + c.args.frame.inner) - c.len-levels.result) c.args.k ((c.args.frame.iters - 1) - c.args.k)
    (record { coefs = c.form.inside.coefs; constant = c.form.inside.constant }) c.args.form.now c.new-coefs.result c.push_spliced.new.numbers c.push_zeros.new.numbers c.push_zeros-2.new.numbers
    c.push.new.self c.as_slice.result.now _ _ c.form.invariant c.form.view_is c.requires.around (omega (arith, k, around, inner, room, many)) c.new-coefs.ensures c.as_slice.ensures c.in_ok-push_spliced.ensures
    c.in_ok-push_zeros.ensures c.in_ok-push_zeros-2.ensures c.in_ok-push.ensures.ok c.in_ok-push_zeros-3.ensures (simp to_z-of_z refl)

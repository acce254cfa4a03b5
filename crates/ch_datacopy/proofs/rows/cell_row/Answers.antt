use Rattle.std.proofs.Common.{◌-◌, ◌<◌, SFits, w64, rules, refl, arith}
use Rattle.std.proofs.lemmas.Int.{to_z-of_z}
use Rattle.ch_datacopy.proofs.SmallRows.{cell_made}
use Rattle.ch_datacopy.proofs.rows.cell_row.Goals as goal

pub invariant_of-result : goal.invariant_of-result
invariant_of-result c =
    let f : SFits w64 c.form.inside.constant = search rules in
    let k : c.args.k < c.args.frame.cells = c.requires.k in
    let iters = c.requires.iters in
    let room = c.requires.room in
    cell_made c.args.frame.around c.args.frame.inner c.args.k ((c.args.frame.cells - 1) - c.args.k)
    (record { coefs = c.form.inside.coefs; constant = c.form.inside.constant }) c.args.form.now c.new-coefs.result c.push_zeros.new.numbers c.push_zeros-2.new.numbers c.push.new.self
    c.push_zeros-3.new.numbers c.push_zeros-4.new.numbers c.as_slice.result.now _ _ c.form.invariant c.form.view_is (omega (arith, k, iters, room)) c.new-coefs.ensures c.as_slice.ensures
    c.in_ok-push_zeros.ensures c.in_ok-push_zeros-2.ensures c.in_ok-push.ensures.ok c.in_ok-push_zeros-3.ensures c.in_ok-push_zeros-4.ensures c.in_ok-push_all.ensures (simp to_z-of_z refl)

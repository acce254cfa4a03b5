use Rattle.std.proofs.Common.{SFits, w64, rules, refl}
use Rattle.std.proofs.lemmas.Int.{to_z-of_z}
use Rattle.ch_moved.proofs.Fitted.{kept_small}
use Rattle.ch_moved.proofs.ties.kept.Goals as goal

pub invariant_of-result : goal.invariant_of-result
invariant_of-result c =
    let f : SFits w64 c.form.inside.constant = search rules in
    kept_small (record { coefs = c.form.inside.coefs; constant = c.form.inside.constant }) c.args.form.now c.new-coefs.result c.push_zeros.new.numbers c.as_slice.result.now _ c.args.before _ c.form.invariant
    c.form.view_is c.new-coefs.ensures c.in_ok-push_zeros.ensures c.as_slice.ensures c.in_ok-push_all.ensures c.requires.room (simp to_z-of_z refl)

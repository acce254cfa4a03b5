use Rattle.std.proofs.Common.{SFits, w64, rules, refl}
use Rattle.std.proofs.lemmas.Int.{to_z-of_z}
use Rattle.ch_moved.proofs.Fitted.{widened_small}
use Rattle.ch_moved.proofs.ties.widened.Goals as goal

pub invariant_of-result : goal.invariant_of-result
invariant_of-result c =
    let f : SFits w64 c.form.inside.constant = search rules in
    widened_small (record { coefs = c.form.inside.coefs; constant = c.form.inside.constant }) c.args.form.now c.as_slice.result.now c.in_ok-coefs.coefs _ c.args.more _ c.form.invariant c.form.view_is
    c.as_slice.ensures c.in_ok-coefs.ensures c.in_ok-push_zeros.ensures c.requires.room (simp to_z-of_z refl)

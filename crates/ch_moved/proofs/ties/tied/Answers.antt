use Rattle.std.proofs.Common.{SFits, w64, rules, refl}
use Rattle.std.proofs.lemmas.Int.{to_z-of_z}
use Rattle.ch_moved.proofs.Fitted.{tied_small}
use Rattle.ch_moved.proofs.ties.tied.Goals as goal

pub invariant_of-result : goal.invariant_of-result
invariant_of-result c =
    let f : SFits w64 c.form.inside.constant = search rules in
    let n : SFits w64 c.args.number = c.ranges.number in
    tied_small (record { coefs = c.form.inside.coefs; constant = c.form.inside.constant }) c.args.form.now c.as_slice.result.now c.in_ok-coefs.coefs c.push_zeros.new.numbers c.push.new.self _ c.args.before
    c.args.after c.args.number _ c.form.invariant c.form.view_is c.as_slice.ensures c.in_ok-coefs.ensures c.in_ok-push_zeros.ensures (simp to_z-of_z at c.in_ok-push.ensures.ok) c.in_ok-push_zeros-2.ensures
    c.requires.number c.requires.room (simp to_z-of_z refl)

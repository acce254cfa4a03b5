use Rattle.std.proofs.Common.{refl, rules, SFits, w64}
use Rattle.std.proofs.lemmas.Int.{to_z-of_z}
use Rattle.ch_plan.specs.declared.plan.Sum.{Sum}
use Rattle.ch_plan.proofs.Spots.{sum_is}
use Rattle.ch_plan.proofs.accesses.sum_of.Goals as goal

pub returns : goal.returns
returns c =
    let f : SFits w64 c.form.inside.constant = search rules in
    let sum : Sum = record { terms = c.in_ok-terms.terms; constant = c.form.inside.constant } in
    simp to_z-of_z (sum_is c.args.form.now sum c.form.inside.coefs c.as_slice.result.now c.form.inside.constant c.form.invariant c.form.view_is c.as_slice.ensures refl (λ point. c.in_ok-terms.ensures point))

use Rattle.std.proofs.Common.{◌∙◌, ap, refl, rules, SFits, w64}
use Rattle.std.proofs.lemmas.Int.{to_z-of_z}
use Rattle.ch_affine.specs.Affine.{dot}
use Rattle.ch_plan.specs.declared.plan.Spot.{Spot}
use Rattle.ch_plan.specs.declared.plan.Sum.{Sum}
use Rattle.ch_plan.proofs.Spots.{finished}
use Rattle.ch_plan.proofs.accesses.Draft.finish.Goals as goal

pub returns : goal.returns
returns c = λ point.
    let f : SFits w64 c.args.self.constant = search rules in
    let sum : Sum = record { terms = c.in_ok-terms.terms; constant = c.args.self.constant } in
    let spot : Spot = record { sum = sum; residues = c.args.self.residues } in
    simp to_z-of_z (finished c.args.self spot point refl (λ q. c.in_ok-terms.ensures q ∙ ap (λ cs. dot cs q) c.as_slice.ensures.value) refl)

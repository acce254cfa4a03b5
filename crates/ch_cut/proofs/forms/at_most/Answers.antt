use Rattle.std.proofs.Common.{ap, ◌∙◌, ◌++◌, ◌∷◌, [], negsuc, SFits, w64}
use Rattle.std.proofs.lemmas.Int.{to_z-of_z}
use Rattle.ch_space.specs.Built.{zeros}
use Rattle.ch_cut.proofs.CutForms.{at_most_small}
use Rattle.ch_cut.proofs.forms.at_most.Goals as goal

pub invariant_of-result : goal.invariant_of-result
invariant_of-result c =
    let s : SFits w64 c.args.number = c.ranges.number in
    let e = c.in_ok-push.ensures.ok in
    let m = c.in_ok-push_zeros.ensures ∙ ap (λ z. z ++ zeros c.saturating_sub.result) c.new-coefs.ensures ∙ ap zeros c.saturating_sub.ensures in
    simp to_z-of_z (at_most_small c.args.level c.push.new.self c.args.number c.requires.few c.requires.number (e ∙ ap (λ z. z ++ negsuc 0 ∷ []) m))

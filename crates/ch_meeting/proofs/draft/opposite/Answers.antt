use Rattle.std.proofs.Common.{◌∙◌, ap, ◌++◌, map, neg_ℤ, SFits, w64, rules, pos, ◌-ℤ◌, arith}
use Rattle.std.proofs.lemmas.Int.{ints, to_z-of_z}
use Rattle.ch_meeting.proofs.Stretches.{opposite_small, negated_number}
use Rattle.ch_meeting.proofs.draft.opposite.Goals as goal

pub invariant_of-result : goal.invariant_of-result
invariant_of-result c =
    let constant = c.row.invariant.constant in
    let f : SFits w64 c.row.inside.constant = search rules in
    let g : SFits w64 (pos 0 -ℤ c.row.inside.constant) = omega (arith, ints, constant) in
    opposite_small (record { coefs = c.row.inside.coefs; constant = c.row.inside.constant }) c.extend_negated.new.coefs _ c.row.invariant
    (c.in_ok-extend_negated.ensures ∙ ap (λ t. t ++ map neg_ℤ c.as_slice.result.now) c.in_ok-coefs.ensures ∙ ap (map neg_ℤ) c.as_slice.ensures)
    (simp to_z-of_z (negated_number c.row.inside.constant))

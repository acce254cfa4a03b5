use Rattle.std.proofs.Common.{SFits, w64, rules, refl}
use Rattle.std.proofs.lemmas.Int.{to_z-of_z}
use Rattle.ch_space.proofs.Builds.{padded_small}
use Rattle.ch_space.proofs.rows.padded_row.Goals as goal

pub invariant_of-result : goal.invariant_of-result
invariant_of-result c =
    let f : SFits w64 c.row.inside.constant = search rules in
    padded_small c.args.loops (record { coefs = c.row.inside.coefs; constant = c.row.inside.constant }) c.args.row.now c.as_slice.result.now c.in_ok-coefs.coefs _ _ c.row.invariant c.row.view_is c.requires.around c.requires.few
    c.as_slice.ensures c.in_ok-coefs.ensures c.in_ok-push_padding.ensures (simp to_z-of_z refl)

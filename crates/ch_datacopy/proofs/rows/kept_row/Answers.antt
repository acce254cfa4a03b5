use Rattle.std.proofs.Common.{SFits, w64, rules, refl}
use Rattle.std.proofs.lemmas.Int.{to_z-of_z}
use Rattle.ch_datacopy.proofs.SmallRows.{kept_made}
use Rattle.ch_datacopy.proofs.rows.kept_row.Goals as goal

pub invariant_of-result : goal.invariant_of-result
invariant_of-result c =
    let f : SFits w64 c.row.inside.constant = search rules in
    kept_made c.args.first c.args.between c.args.behind (record { coefs = c.row.inside.coefs; constant = c.row.inside.constant }) c.args.row.now c.new-coefs.result c.push_spliced.new.numbers
    c.as_slice.result.now _ _ c.row.invariant c.row.view_is c.requires.first c.requires.room c.new-coefs.ensures c.as_slice.ensures c.in_ok-push_spliced.ensures c.in_ok-push_zeros.ensures
    (simp to_z-of_z refl)

use Rattle.std.proofs.Common.{◌∙◌, ap, unsigned_abs, rules, SFits, w64}
use Rattle.std.proofs.lemmas.Int.{to_z-of_z}
use Rattle.ch_affine.specs.Form.{Form}
use Rattle.ch_poly.proofs.Divides.{uneven_yes, uneven_no}
use Rattle.ch_poly.proofs.exclude.is_uneven.Goals as goal

pub returns-clause-yes : goal.returns-clause-yes
returns-clause-yes c =
    let k : SFits w64 c.f.inside.constant = search rules in
    let coefs = c.as_slice.ensures ∙ ap (λ (g : Form). g.coefs) c.f.view_is in
    let constant = simp to_z-of_z at c.unsigned_abs.ensures.value ∙ ap (λ (g : Form). unsigned_abs g.constant) c.f.view_is in
    uneven_yes c.args.f.now _ _ _ _ coefs constant c.common_divisor-divisor.ensures c.divides.ensures.no

pub returns-clause-no : goal.returns-clause-no
returns-clause-no c =
    let k : SFits w64 c.f.inside.constant = search rules in
    let coefs = c.as_slice.ensures ∙ ap (λ (g : Form). g.coefs) c.f.view_is in
    let constant = simp to_z-of_z at c.unsigned_abs.ensures.value ∙ ap (λ (g : Form). unsigned_abs g.constant) c.f.view_is in
    uneven_no c.args.f.now _ _ _ _ coefs constant c.common_divisor-divisor.ensures c.divides.ensures.yes

use Rattle.std.proofs.Common.{◌≡◌, ap, ap₂, ◌∙◌, ◌+ℤ◌, rules, SFits, w64}
use Rattle.std.specs.Int.{w128}
use Rattle.std.proofs.lemmas.Int.{to_z-of_z}
use Rattle.ch_affine.specs.Affine.{IsSmall, dot}
use Rattle.ch_moved.specs.Spread.{constants}
use Rattle.ch_moved.specs.Substituted.{substituted}
use Rattle.ch_moved.proofs.Fitted.{large_constant, spread_coefs, spread_made, some_value}
use Rattle.ch_moved.proofs.Substitutes.{front, constant_is}
use Rattle.ch_moved.proofs.substitute.spread.Goals as goal

pub returns-in_default-narrowed : goal.returns-in_default-narrowed
returns-in_default-narrowed c =
    let r : SFits w128 c.constant-sum.result = search rules in
    let k : SFits w64 c.row.inside.constant = search rules in
    let sum = simp to_z-of_z at c.constant-sum.ensures in
    let s = c.as_slice-2.ensures in
    let v = c.row.view_is in
    large_constant c.args.variables c.args.forms.now c.args.row.now _
    (sum ∙ ap₂ (λ z cs. z +ℤ dot cs (constants c.args.forms.now)) (ap (λ f. f.constant) v) (s ∙ ap (λ f. f.coefs) v)) (simp to_z-of_z at c.in_default-narrowed.ensures)

pub returns : goal.returns
returns c =
    let r : SFits w128 c.constant-sum.result = search rules in
    let k : SFits w64 c.row.inside.constant = search rules in
    let n : SFits w64 c.in-Some-narrowed.constant = search rules in
    let sum = simp to_z-of_z at c.constant-sum.ensures in
    let v = c.row.view_is in
    let constant = simp to_z-of_z at c.in-Some-narrowed.ensures
    ∙ sum ∙ ap₂ (λ z cs. z +ℤ dot cs (constants c.args.forms.now)) (ap (λ f. f.constant) v) (c.as_slice-2.ensures ∙ ap (λ f. f.coefs) v)
    ∙ constant_is c.args.variables c.args.forms.now c.args.row.now in
    let first : c.in-Some.coefs ≡ (front c.args.variables c.args.forms.now c.args.row.now).coefs =
    some_value c.in_ok-coefs.field-0 (IsSmall (substituted c.args.variables c.args.forms.now c.args.row.now) → ⊥) (λ cs. cs ≡ (front c.args.variables c.args.forms.now c.args.row.now).coefs) c.in-Some.coefs
    c.in_ok-coefs.ensures c.in-Some.is in
    let coefs = spread_coefs c.args.variables c.args.forms.now c.args.between c.args.row.now c.in-Some.coefs _ c.as_slice.result.now _ first c.in_ok-push_zeros.ensures
    (c.as_slice.ensures ∙ ap (λ f. f.coefs) v) c.in_ok-push_all.ensures in
    spread_made c.args.variables c.args.forms.now c.args.between c.args.row.now _ _ c.new.result c.requires.long c.requires.old c.requires.room coefs constant
    (simp to_z-of_z at c.new.ensures.fits) (simp to_z-of_z at c.new.ensures.value)

use Rattle.std.proofs.Common.{◌≡◌, ◌∙◌, ap, ap₂, sym, length, rules, ◌+ℤ◌, ◌*ℤ◌, SFits, w64}
use Rattle.std.specs.Int.{int_wrap}
use Rattle.std.proofs.lemmas.Int.{to_z-of_z}
use Rattle.ch_affine.specs.Affine.{dot, form, value}
use Rattle.ch_affine.specs.Form.{Form}
use Rattle.ch_plan.proofs.Forming.{form_added, refilled}
use Rattle.ch_plan.proofs.accesses.Draft.add_form.Goals as goal

pub add_multiples-requires : goal.add_multiples-requires
add_multiples-requires c = ap length c.as_slice.ensures ∙ ap (λ (g : Form). length g.coefs) c.form.view_is ∙ c.requires ∙ ap length (sym c.as_mut_slice.ensures.value)

pub returns-clause-long : goal.returns-clause-long
returns-clause-long c =
    let long = c.add_multiples.ensures.long ∙ ap length c.as_mut_slice.ensures.value in
    ap length (refilled c.args.self.now.coefs.len c.add_multiples.new.coefs c.args.self.now.coefs.items c.args.self.now.coefs.ok.0 long) ∙ long

pub returns-clause-value : goal.returns-clause-value
returns-clause-value c = λ xs.
    let f : SFits w64 c.args.factor = c.ranges.factor in
    let k : SFits w64 c.form.inside.constant = search rules in
    let o : SFits w64 c.args.self.now.constant = search rules in
    let t : SFits w64 c.times.result = search rules in
    let p : SFits w64 c.plus-self.result = search rules in
    let m = simp to_z-of_z at c.times.ensures in
    let s = simp to_z-of_z at c.plus-self.ensures in
    let written =
    refilled c.args.self.now.coefs.len c.add_multiples.new.coefs c.args.self.now.coefs.items c.args.self.now.coefs.ok.0 (c.add_multiples.ensures.long ∙ ap length c.as_mut_slice.ensures.value) in
    let multiples = simp to_z-of_z at (c.add_multiples.ensures.value xs) in
    let sum : int_wrap w64 (dot c.add_multiples.new.coefs xs) ≡ int_wrap w64 (dot c.args.self.now.coefs.items xs +ℤ c.args.factor *ℤ dot c.form.inside.coefs xs) =
    multiples ∙ ap₂ (λ us vs. int_wrap w64 (dot us xs +ℤ c.args.factor *ℤ dot vs xs)) c.as_mut_slice.ensures.value c.as_slice.ensures in
    let whole =
    form_added c.args.self.now.constant (dot c.args.self.now.coefs.items xs) c.plus-self.result (dot c.add_multiples.new.coefs xs) c.args.factor c.times.result (form c.form.inside.coefs c.form.inside.constant) xs
    m s sum in
    simp to_z-of_z (
    ap (λ cs. int_wrap w64 (c.plus-self.result +ℤ dot cs xs)) written ∙ whole
    ∙ ap (λ (g : Form). int_wrap w64 ((c.args.self.now.constant +ℤ dot c.args.self.now.coefs.items xs) +ℤ c.args.factor *ℤ value g xs)) c.form.view_is
    )

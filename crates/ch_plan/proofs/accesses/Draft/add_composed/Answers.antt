use Rattle.std.proofs.Common.{◌≡◌, ◌∙◌, ◌<◌, ap, sym, refl, get_or, length, take, pos, rules, arith, ◌+ℤ◌, ◌*ℤ◌, SFits, w64}
use Rattle.std.specs.Int.{int_wrap}
use Rattle.std.proofs.lemmas.Int.{to_z-of_z}
use Rattle.std.proofs.lemmas.List.{take_all}
use Rattle.ch_affine.specs.Affine.{dot, form}
use Rattle.ch_affine.specs.Form.{Form}
use Rattle.ch_plan.specs.Ready.{formed, iters_at}
use Rattle.ch_plan.proofs.Forming.{composed_none, composed_on}
use Rattle.ch_plan.proofs.accesses.Draft.add_composed.Goals as goal

pub loop-k-init : goal.loop-k-init
loop-k-init c =
    let f : SFits w64 c.args.factor = c.ranges.factor in
    let k : SFits w64 c.form.inside.constant = search rules in
    let o : SFits w64 c.args.self.now.constant = search rules in
    let t : SFits w64 c.times.result = search rules in
    let p : SFits w64 c.plus-self.result = search rules in
    let m = simp to_z-of_z at c.times.ensures in
    let s = simp to_z-of_z at c.plus-self.ensures in
    record {
      long = refl;
      residues = refl;
      value = λ xs. simp to_z-of_z (
          composed_none c.args.self.now.constant (dot c.args.self.now.coefs.items xs) c.plus-self.result c.args.factor c.times.result (form c.form.inside.coefs c.form.inside.constant) xs m s
          ∙ ap (λ (g : Form). int_wrap w64 ((c.args.self.now.constant +ℤ dot c.args.self.now.coefs.items xs) +ℤ c.args.factor *ℤ (g.constant +ℤ pos 0))) c.form.view_is
          );
    }

pub add_form-requires : goal.add_form-requires
add_form-requires c =
    let n : length c.as_slice-weights.result.now ≡ length c.args.origin.now = ap length c.as_slice-weights.ensures ∙ ap (λ (g : Form). length g.coefs) c.form.view_is ∙ c.requires.same in
    let l : c.loop-k.k < length c.args.origin.now = omega (arith, c.loop-k-test.true, n) in
    ap (λ (g : Form). length g.coefs) c.index-origin-k.is ∙ c.requires.origin c.loop-k.k c.index-origin-k.result l ∙ sym c.loop-k.invariant.long

pub loop-k-preserved : goal.loop-k-preserved
loop-k-preserved c =
    let n : length c.as_slice-weights.result.now ≡ length c.args.origin.now = ap length c.as_slice-weights.ensures ∙ ap (λ (g : Form). length g.coefs) c.form.view_is ∙ c.requires.same in
    let l : c.loop-k.k < length c.args.origin.now = omega (arith, c.loop-k-test.true, n) in
    let f : SFits w64 c.args.factor = c.ranges.factor in
    let o : SFits w64 (get_or c.as_slice-weights.result.now c.loop-k.k (pos 0)) = search rules in
    let t : SFits w64 c.times-in-loop-k.result = search rules in
    let m = simp to_z-of_z at c.times-in-loop-k.ensures in
    record {
      long = c.add_form.ensures.long ∙ c.loop-k.invariant.long;
      residues = c.add_form.ensures.residues ∙ c.loop-k.invariant.residues;
      value = λ xs.
          let here = simp to_z-of_z at (c.add_form.ensures.value xs) in
          let before = simp to_z-of_z at (c.loop-k.invariant.value xs) in
          simp to_z-of_z (composed_on (formed c.loop-k.self xs) (formed c.add_form.new.self xs) (formed c.args.self.now xs) c.args.factor c.times-in-loop-k.result
          (form c.as_slice-weights.result.now c.args.form.now.constant) c.index-origin-k.result c.args.origin.now xs c.loop-k.k c.loop-k-test.true l c.index-origin-k.is m here before);
    }

pub returns-clause-value : goal.returns-clause-value
returns-clause-value c = λ xs.
    let f : SFits w64 c.args.factor = c.ranges.factor in
    let before = simp to_z-of_z at (c.loop-k.invariant.value xs) in
    let all : take c.loop-k.k c.as_slice-weights.result.now ≡ c.args.form.now.coefs =
    take_all c.loop-k.k c.as_slice-weights.result.now (omega arith) ∙ c.as_slice-weights.ensures ∙ ap (λ (g : Form). g.coefs) c.form.view_is in
    before ∙ ap (λ cs. int_wrap w64 (formed c.args.self.now xs +ℤ c.args.factor *ℤ (c.args.form.now.constant +ℤ dot cs (iters_at c.args.origin.now xs)))) all

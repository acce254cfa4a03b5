use Rattle.std.proofs.Common.{◌*ℤ◌, ap, ◌∙◌, pos, get_or, rules, arith, SFits, w64}
use Rattle.std.specs.Int.{w128}
use Rattle.std.proofs.lemmas.Int.{to_z-of_z}
use Rattle.ch_moved.proofs.Fitted.{forms_more, forms_end}
use Rattle.ch_moved.proofs.substitute.coefficient.Goals as goal

pub loop-k-preserved : goal.loop-k-preserved
loop-k-preserved c = record {
  rest =
      let r : SFits w128 c.plus-sum.result = search rules in
      let t : SFits w128 c.product.result = search rules in
      let a : SFits w64 (get_or c.args.factors.now c.loop-k.k (pos 0)) = search rules in
      let b : SFits w64 (get_or c.as_slice.result.now c.args.place (pos 0)) = search rules in
      let at = ap (λ z. get_or z c.args.place (pos 0)) c.as_slice.ensures ∙ ap (λ g. get_or g.coefs c.args.place (pos 0)) (c.form.view_is ∙ c.index-forms-k.is) in
      let product = simp to_z-of_z at c.product.ensures.value in
      let plus = simp to_z-of_z at c.plus-sum.ensures.value in
      simp to_z-of_z (
      forms_more (λ g. get_or g.coefs c.args.place (pos 0)) c.args.factors.now c.args.forms.now c.loop-k.k c.index-forms-k.result _ _ _ _ c.loop-k-test.true c.requires.long
      (product ∙ ap (λ z. get_or c.args.factors.now c.loop-k.k (pos 0) *ℤ z) at) plus c.loop-k.invariant.rest
      );
  bound = grind (arith, to_z-of_z);
}

pub returns : goal.returns
returns c = forms_end (λ g. get_or g.coefs c.args.place (pos 0)) c.args.factors.now c.args.forms.now c.loop-k.k _ _ c.loop-k-test.false c.loop-k.invariant.rest

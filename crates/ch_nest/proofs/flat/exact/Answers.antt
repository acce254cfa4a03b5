use Rattle.std.proofs.Common.{◌≡◌, ◌∙◌, ap, rules, arith, SFits, w64, pos, get_or, to_z}
use Rattle.std.specs.Int.{w128}
use Rattle.std.proofs.lemmas.Int.{to_z-of_z}
use Rattle.ch_nest.proofs.FlatRuns.{exact_done, exact_on}
use Rattle.ch_nest.proofs.flat.exact.Goals as goal

pub loop-k-preserved : goal.loop-k-preserved
loop-k-preserved c =
    let t : SFits w128 c.product.result = search rules in
    let n : SFits w128 c.sum-value.result = search rules in
    let a : SFits w64 (get_or c.as_slice-coefs.result.now c.loop-k.k (pos 0)) = search rules in
    let b : SFits w64 (get_or c.args.point.now c.loop-k.k (pos 0)) = search rules in
    let term = simp to_z-of_z at c.product.ensures.value in
    let next = simp to_z-of_z at c.sum-value.ensures.value in
    record {
      rest = simp to_z-of_z (exact_on c.as_slice-coefs.result.now c.args.point.now c.loop-k.k (to_z w128 c.loop-k.value-bits) c.product.result c.sum-value.result _
          (omega (arith, c.min-terms.ensures, c.loop-k-test.true)) (omega (arith, c.min-terms.ensures, c.loop-k-test.true)) term next c.loop-k.invariant.rest);
      bound = grind (arith, to_z-of_z);
    }

pub returns-clause-value : goal.returns-clause-value
returns-clause-value c =
    let h = exact_done c.as_slice-coefs.result.now c.args.point.now c.loop-k.k (to_z w128 c.loop-k.value-bits) _
    (omega (arith, c.min-terms.ensures, c.loop-k-test.false)) c.loop-k.invariant.rest in
    let coefs : c.as_slice-coefs.result.now ≡ c.args.form.now.coefs = c.as_slice-coefs.ensures ∙ ap (λ f. f.coefs) c.form.view_is in
    let whole = rw coefs at h in whole

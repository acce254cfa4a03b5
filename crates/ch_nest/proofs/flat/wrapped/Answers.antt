use Rattle.std.proofs.Common.{◌≡◌, ◌∙◌, ap, rules, arith, SFits, w64, pos, get_or, to_z}
use Rattle.std.proofs.lemmas.Int.{to_z-of_z}
use Rattle.ch_nest.proofs.FlatRuns.{sum_done, sum_on}
use Rattle.ch_nest.proofs.flat.wrapped.Goals as goal

pub loop-k-preserved : goal.loop-k-preserved
loop-k-preserved c =
    let t : SFits w64 c.times.result = search rules in
    let n : SFits w64 c.plus-sum.result = search rules in
    let a : SFits w64 (get_or c.as_slice-coefs.result.now c.loop-k.k (pos 0)) = search rules in
    let b : SFits w64 (get_or c.args.point.now c.loop-k.k (pos 0)) = search rules in
    let term = simp to_z-of_z at c.times.ensures in
    let next = simp to_z-of_z at c.plus-sum.ensures in
    simp to_z-of_z (sum_on c.as_slice-coefs.result.now c.args.point.now c.loop-k.k (to_z w64 c.loop-k.sum-bits) c.times.result c.plus-sum.result _
    (omega (arith, c.min-terms.ensures, c.loop-k-test.true)) (omega (arith, c.min-terms.ensures, c.loop-k-test.true)) term next c.loop-k.invariant)

pub returns : goal.returns
returns c =
    let f : SFits w64 (to_z w64 c.loop-k.sum-bits) = search rules in
    let h = sum_done c.as_slice-coefs.result.now c.args.point.now c.loop-k.k (to_z w64 c.loop-k.sum-bits) _
    (omega (arith, c.min-terms.ensures, c.loop-k-test.false)) f c.loop-k.invariant in
    let coefs : c.as_slice-coefs.result.now ≡ c.args.form.now.coefs = c.as_slice-coefs.ensures ∙ ap (λ f. f.coefs) c.form.view_is in
    let whole = rw coefs at h in whole

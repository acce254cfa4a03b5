use Rattle.std.proofs.Common.{◌∙◌, ap, length, pos, get_or, rules, arith, SFits, w64}
use Rattle.std.specs.Int.{w128}
use Rattle.std.proofs.lemmas.Int.{to_z-of_z}
use Rattle.ch_moved.proofs.Bounded.{least_more}
use Rattle.ch_moved.proofs.bounds.least_in.Goals as goal

pub loop-k-preserved : goal.loop-k-preserved
loop-k-preserved c = record {
  rest =
      let r : SFits w128 c.plus-sum.result = search rules in
      let t : SFits w128 c.least_term.result = search rules in
      let a : SFits w64 (get_or c.as_slice-coefs.result.now c.loop-k.k (pos 0)) = search rules in
      let same = ap length c.as_slice-coefs.ensures ∙ ap (λ f. length f.coefs) c.row.view_is ∙ c.requires.same in
      let term = simp to_z-of_z at c.least_term.ensures.value in
      let plus = simp to_z-of_z at c.plus-sum.ensures.value in
      simp to_z-of_z (least_more c.as_slice-coefs.result.now c.args.boxes.now c.loop-k.k _ _ _ _ _ c.loop-k-test.true same term plus c.loop-k.invariant.rest);
  bound = grind (arith, to_z-of_z);
}

use Rattle.std.proofs.Common.{◌≡◌, ◌≤◌, ◌^◌, pos, get_or, unsigned_abs, rules, arith, SFits, w64}
use Rattle.std.specs.Int.{w128}
use Rattle.std.proofs.lemmas.Int.{ints, to_z-of_z}
use Rattle.ch_affine.specs.Corners.{least_term}
use Rattle.ch_affine.proofs.Corners.{least_more}
use Rattle.ch_affine.proofs.extremes.least_total.Goals as goal

pub loop-k-preserved : goal.loop-k-preserved
loop-k-preserved c = record {
  rest =
      let r : SFits w128 c.plus-sum.result = search rules in
      let t : SFits w128 c.least_term.result = search rules in
      let small_c : unsigned_abs (get_or c.args.coefs.now c.loop-k.k (pos 0)) ≤ 2 ^ 60 = c.requires.coefs_small _ _ c.loop-k-test.true in
      let a : SFits w64 (get_or c.args.coefs.now c.loop-k.k (pos 0)) = omega (arith, ints) in
      let k : SFits w64 c.args.constant = c.ranges.constant in
      let term : c.least_term.result ≡ least_term (get_or c.args.coefs.now c.loop-k.k (pos 0)) (get_or c.args.boxes.now c.loop-k.k (record { low = pos 0; high = pos 0 })) =
      simp to_z-of_z at c.least_term.ensures.value in
      let plus = simp to_z-of_z at c.plus-sum.ensures.value in
      simp to_z-of_z (least_more _ _ _ c.loop-k.k _ _ _ _ c.loop-k-test.true c.requires.same term plus (simp to_z-of_z at c.loop-k.invariant.rest));
  bound = grind (arith, to_z-of_z);
}

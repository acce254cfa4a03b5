use Rattle.std.proofs.Common.{◌≡◌, ◌≤◌, ◌^◌, pos, get_or, unsigned_abs, rules, arith, SFits, w64}
use Rattle.std.specs.Int.{w128}
use Rattle.std.proofs.lemmas.Int.{ints, to_z-of_z}
use Rattle.ch_poly.specs.Boxes.{peak, at}
use Rattle.ch_poly.proofs.Peaks.{peaks_more}
use Rattle.ch_poly.proofs.peak.most.Goals as goal

pub loop-k-preserved : goal.loop-k-preserved
loop-k-preserved c = record {
  rest =
      let r : SFits w128 c.plus-sum.result = search rules in
      let t : SFits w128 c.term.result = search rules in
      let small_c : unsigned_abs (get_or c.args.coefs.now c.loop-k.k (pos 0)) ≤ 2 ^ 60 = c.requires.coefs_small _ _ c.loop-k-test.true in
      let small_l : unsigned_abs (get_or c.args.lows.now c.loop-k.k (pos 0)) ≤ 2 ^ 54 = c.requires.boxed.low_small _ _ (omega arith) in
      let small_h : unsigned_abs (get_or c.args.highs.now c.loop-k.k (pos 0)) ≤ 2 ^ 54 = c.requires.boxed.high_small _ _ (omega arith) in
      let a : SFits w64 (get_or c.args.coefs.now c.loop-k.k (pos 0)) = omega (arith, ints) in
      let b : SFits w64 (get_or c.args.lows.now c.loop-k.k (pos 0)) = omega (arith, ints) in
      let h : SFits w64 (get_or c.args.highs.now c.loop-k.k (pos 0)) = omega (arith, ints) in
      let k : SFits w64 c.args.constant = c.ranges.constant in
      let term : c.term.result ≡ peak (at c.args.coefs.now c.loop-k.k) (at c.args.lows.now c.loop-k.k) (at c.args.highs.now c.loop-k.k) =
      simp to_z-of_z at c.term.ensures.value in
      let plus = simp to_z-of_z at c.plus-sum.ensures.value in
      simp to_z-of_z (peaks_more _ _ _ c.loop-k.k _ _ _ _ c.loop-k-test.true c.requires.same c.requires.boxed.same term plus (simp to_z-of_z at c.loop-k.invariant.rest));
  bound = grind (arith, to_z-of_z);
}

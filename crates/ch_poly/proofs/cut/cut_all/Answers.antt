use Rattle.std.proofs.Common.{◌≤◌, ◌<◌, ◌^◌, pos, unsigned_abs, length, arith, SFits, w64, get_or}
use Rattle.std.proofs.lemmas.Int.{ints, to_z-of_z}
use Rattle.std.proofs.lemmas.Grind.{common_steps}
use Rattle.ch_poly.proofs.Ranges.{inside_then, same_but_then, near_step}
use Rattle.ch_poly.proofs.cut.cut_all.Goals as goal
use Rattle.ch_poly.proofs.cut.cut_all.Goals.{then-cut_at, else-cut_at}

pub loop-k-preserved : goal.loop-k-preserved
loop-k-preserved c =
    let in_lows : c.loop-k.k < length c.args.lows.now = omega (arith, c.requires.same) in
    let small : unsigned_abs (get_or c.args.coefs.now c.loop-k.k (pos 0)) ≤ 2 ^ 60 = c.requires.coefs_small _ _ c.loop-k-test.true in
    let a : SFits w64 (get_or c.args.coefs.now c.loop-k.k (pos 0)) = omega (arith, ints) in
    let keeps = simp to_z-of_z at c.cut_at.ensures.keeps in
    record {
      boxed = c.cut_at.ensures.boxed;
      inside = inside_then _ _ _ _ _ _ c.loop-k.invariant.inside c.cut_at.ensures.inside;
      low_same = same_but_then _ _ _ _ c.loop-k.invariant.low_same c.cut_at.ensures.low_others;
      high_same = same_but_then _ _ _ _ c.loop-k.invariant.high_same c.cut_at.ensures.high_others;
      keeps = near_step _ _ _ _ _ _ _ _ _ in_lows c.loop-k.invariant.keeps c.loop-k.invariant.low_same c.loop-k.invariant.high_same
          c.cut_at.ensures.low_others c.cut_at.ensures.high_others c.loop-k.invariant.inside c.cut_at.ensures.inside keeps;
      narrower = omega (arith, c.cut_at.ensures.narrower, c.loop-k.invariant.narrower);
      changed = elim c.if-cut_at.branch [ then-cut_at w ↦ grind (arith, common_steps) | else-cut_at w ↦ grind (arith, common_steps) ];
    }

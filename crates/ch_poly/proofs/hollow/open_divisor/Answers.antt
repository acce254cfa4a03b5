use Rattle.std.proofs.Common.{◌≡◌, ◌<◌, ◌≤◌, ◌^◌, pos, get_or, length, unsigned_abs, arith, rules, SFits, w64}
use Rattle.std.proofs.lemmas.Int.{ints, to_z-of_z}
use Rattle.ch_poly.specs.Boxes.{at}
use Rattle.ch_poly.proofs.Hollows.{open_then, open_else}
use Rattle.ch_poly.proofs.hollow.open_divisor.Goals as goal
use Rattle.ch_poly.proofs.hollow.open_divisor.Goals.{then-lows-k, else-lows-k}

pub loop-k-preserved : goal.loop-k-preserved
loop-k-preserved c =
    let small : unsigned_abs (get_or c.args.coefs.now c.loop-k.k (pos 0)) ≤ 2 ^ 60 = c.requires.small _ _ c.loop-k-test.true in
    let f : SFits w64 (get_or c.args.coefs.now c.loop-k.k (pos 0)) = omega (arith, ints) in
    let in_lows : c.loop-k.k < length c.args.lows.now = omega (arith, c.requires.lows, c.loop-k-test.true) in
    let in_highs : c.loop-k.k < length c.args.highs.now = omega (arith, c.requires.highs, c.loop-k-test.true) in
    let l : SFits w64 (get_or c.args.lows.now c.loop-k.k (pos 0)) = search rules in
    let h : SFits w64 (get_or c.args.highs.now c.loop-k.k (pos 0)) = search rules in
    elim c.if-lows-k.branch [
      | then-lows-k w ↦ (let e = simp to_z-of_z at w.unsigned_abs.ensures.value in
          open_then c.args.coefs.now c.args.lows.now c.args.highs.now c.loop-k.k c.loop-k.found _ _ _ c.loop-k.invariant e w.gcd-found.ensures w.found-is)
      | else-lows-k w ↦ (let same : at c.args.lows.now c.loop-k.k ≡ at c.args.highs.now c.loop-k.k = grind (arith, ints, to_z-of_z) in
          open_else c.args.coefs.now c.args.lows.now c.args.highs.now c.loop-k.k c.loop-k.found _ c.loop-k.invariant same w.found-is)
    ]

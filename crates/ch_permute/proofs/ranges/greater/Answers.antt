use Rattle.std.proofs.Common.{◌<◌, ◌≤◌, ap, pos, get_or, length, unsigned_abs, SFits, w64, arith}
use Rattle.std.proofs.lemmas.Int.{ints, to_z-of_z}
use Rattle.ch_affine.specs.declared.system.Range.{Range}
use Rattle.ch_permute.proofs.Steps.{greater_is, next_greatest, next_least}
use Rattle.ch_permute.proofs.ranges.greater.Goals as goal

pub loop-k-preserved : goal.loop-k-preserved
loop-k-preserved c =
    let small : unsigned_abs (get_or c.args.amounts.now c.loop-k.k (pos 0)) ≤ 64 = c.requires.small _ _ c.loop-k-test.true in
    let f : SFits w64 (get_or c.args.amounts.now c.loop-k.k (pos 0)) = omega (arith, ints) in
    let m : c.loop-k.k < length c.args.boxes.now = let t = c.loop-k-test.true in let b = c.requires.boxes in omega arith in
    let v = simp to_z-of_z at c.scaled.ensures.value in
    let p = c.plus-sum-in-loop-k.ensures in
    let near = c.scaled.ensures.near in
    let old = c.loop-k.invariant.small in
    let pl = ap (λ (r : Range). r.low) p in
    let ph = ap (λ (r : Range). r.high) p in
    record {
      low = next_least c.args.amounts.now c.args.boxes.now c.loop-k.k c.loop-k.sum.low c.scaled.result.low c.plus-sum-in-loop-k.result.low _ c.loop-k-test.true m (ap (λ (r : Range). r.low) v) pl c.loop-k.invariant.low;
      high =
          next_greatest c.args.amounts.now c.args.boxes.now c.loop-k.k c.loop-k.sum.high c.scaled.result.high c.plus-sum-in-loop-k.result.high _ c.loop-k-test.true m (ap (λ (r : Range). r.high) v) ph c.loop-k.invariant.high;
      small = record { low = omega (arith, ints, near.low, old.low, pl); high = omega (arith, ints, near.high, old.high, ph) };
    }

pub returns : goal.returns
returns c =
    let f : SFits w64 c.args.amount = c.ranges.amount in
    greater_is c.args.amounts.now c.args.amount _ c.args.boxes.now c.args.range c.loop-k.sum c.loop-k.k c.loop-k-test.false (omega (arith, ints)) c.loop-k.invariant.low c.loop-k.invariant.high

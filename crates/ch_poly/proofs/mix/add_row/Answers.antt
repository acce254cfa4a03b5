use Rattle.std.proofs.Common.{◌≡◌, ◌<◌, ◌^◌, ◌+ℤ◌, ◌*ℤ◌, pos, get_or, length, ◌∙◌, arith, rules, SFits, w64}
use Rattle.std.specs.Int.{w128}
use Rattle.std.proofs.lemmas.Int.{to_z-of_z}
use Rattle.std.proofs.lemmas.List.Elements.{All-set}
use Rattle.ch_affine.specs.Affine.{IsAtMost}
use Rattle.ch_poly.specs.Boxes.{at}
use Rattle.ch_poly.proofs.Ranges.{same_but_set, same_but_then}
use Rattle.ch_poly.proofs.Mixed.{front_step}
use Rattle.ch_poly.proofs.mix.add_row.Goals as goal

pub loop-k-preserved : goal.loop-k-preserved
loop-k-preserved c =
    let lt : c.loop-k.k < length c.loop-k.sums = omega (arith, c.requires.same, c.loop-k-test.true) in
    let f : SFits w64 c.args.factor = c.ranges.factor in
    let s : SFits w64 (get_or c.loop-k.sums c.loop-k.k (pos 0)) = search rules in
    let r : SFits w64 (get_or c.args.row.now c.loop-k.k (pos 0)) = search rules in
    let n : SFits w64 c.narrowed.result = search rules in
    let a : SFits w128 c.added-sum.result = search rules in
    let added = simp to_z-of_z at c.added-sum.ensures in
    let same = simp to_z-of_z at c.narrowed.ensures in
    let is : c.narrowed.result ≡ at c.loop-k.sums c.loop-k.k +ℤ c.args.factor *ℤ at c.args.row.now c.loop-k.k = same ∙ added in
    let small : IsAtMost (2 ^ 60) c.narrowed.result = grind (arith, to_z-of_z) in
    let front = simp to_z-of_z at c.loop-k.invariant.front in
    simp to_z-of_z (record {
      small = All-set (IsAtMost (2 ^ 60)) c.loop-k.sums c.loop-k.k c.narrowed.result small c.loop-k.invariant.small;
      front = front_step c.args.factor c.args.row.now c.args.sums.now c.loop-k.sums c.loop-k.k c.narrowed.result lt front c.loop-k.invariant.back is;
      back = same_but_then _ _ _ _ c.loop-k.invariant.back (same_but_set c.loop-k.sums c.loop-k.k c.narrowed.result);
    })

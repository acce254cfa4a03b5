use Rattle.std.proofs.Common.{◌≤◌, ◌<◌, ◌^◌, pos, unsigned_abs, length, arith, rules, SFits, w64, get_or}
use Rattle.std.proofs.lemmas.Int.{ints, to_z-of_z}
use Rattle.std.proofs.lemmas.List.{get_or-set_same}
use Rattle.ch_poly.specs.Boxes.{at}
use Rattle.ch_poly.proofs.Ranges.{boxed_set, inside_set, widths_at_most, widths_fewer, same_but_set}
use Rattle.ch_poly.proofs.cut.cut_at.Goals as goal

pub returns : goal.returns
returns c =
    let in_lows : c.args.k < length c.args.lows.now = c.requires.inside in
    let in_highs : c.args.k < length c.args.highs.now = omega (arith, c.requires.boxed.same) in
    let sl : unsigned_abs (at c.args.lows.now c.args.k) ≤ 2 ^ 54 = c.requires.boxed.low_small _ _ c.requires.inside in
    let sh : unsigned_abs (at c.args.highs.now c.args.k) ≤ 2 ^ 54 = c.requires.boxed.high_small _ _ in_highs in
    let a : SFits w64 (get_or c.args.lows.now c.args.k (pos 0)) = omega (arith, ints) in
    let b : SFits w64 (get_or c.args.highs.now c.args.k (pos 0)) = omega (arith, ints) in
    let l : SFits w64 c.cut-range.result.low = search rules in
    let h : SFits w64 c.cut-range.result.high = search rules in
    let fc : SFits w64 c.args.coef = c.ranges.coef in
    let low = simp to_z-of_z at c.cut-range.ensures.low in
    let high = simp to_z-of_z at c.cut-range.ensures.high in
    let keeps = simp to_z-of_z at c.cut-range.ensures.keeps in
    let fewer = simp to_z-of_z at c.is_narrower.ensures in
    record {
      boxed = simp to_z-of_z (boxed_set _ _ _ _ _ c.requires.boxed in_lows low c.cut-range.ensures.some high);
      inside = simp to_z-of_z (inside_set _ _ _ _ _ c.requires.boxed in_lows low high);
      low_others = same_but_set c.args.lows.now c.args.k _;
      high_others = same_but_set c.args.highs.now c.args.k _;
      keeps = simp (to_z-of_z, get_or-set_same) keeps;
      narrower = simp to_z-of_z (widths_at_most _ _ _ _ _ in_lows c.requires.boxed.same low c.cut-range.ensures.some high);
      changed = λ t. simp to_z-of_z (widths_fewer _ _ _ _ _ in_lows c.requires.boxed.same (fewer t));
    }

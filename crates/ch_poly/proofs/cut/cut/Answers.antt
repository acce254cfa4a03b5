use Rattle.std.proofs.Common.{◌<ℤ◌, pos, arith, rules, SFits, w64}
use Rattle.std.proofs.lemmas.Int.{ints, to_z-of_z}
use Rattle.ch_poly.proofs.Cuts.{cut_low, cut_high, some_size}
use Rattle.ch_poly.proofs.cut.cut.Goals as goal

pub returns-then-coef-gt0-clause-keeps : goal.returns-then-coef-gt0-clause-keeps
returns-then-coef-gt0-clause-keeps c =
    let fl : SFits w64 c.lower.result = search rules in
    let fh : SFits w64 c.args.range.high = search rules in
    let fc : SFits w64 c.args.coef = c.ranges.coef in
    let more : pos 0 <ℤ c.args.coef = omega (arith, ints) in
    let size = simp to_z-of_z at c.unsigned_abs-size.ensures.value in
    let new = simp to_z-of_z at c.lower.ensures in
    record {
      above = λ x l h p. simp to_z-of_z (cut_low _ x _ _ _ _ _ _ more size c.quotient-spare.ensures new h p);
      below = λ x l h p. simp to_z-of_z h;
    }

pub returns-else-coef-gt0-clause-keeps : goal.returns-else-coef-gt0-clause-keeps
returns-else-coef-gt0-clause-keeps c =
    let fl : SFits w64 c.higher.result = search rules in
    let fh : SFits w64 c.args.range.low = search rules in
    let fc : SFits w64 c.args.coef = c.ranges.coef in
    let some = some_size _ _ _ c.if-slack-size.false in
    let size = simp to_z-of_z at c.unsigned_abs-size.ensures.value in
    let less : c.args.coef <ℤ pos 0 = omega (arith, ints, some) in
    let new = simp to_z-of_z at c.higher.ensures in
    record {
      above = λ x l h p. simp to_z-of_z l;
      below = λ x l h p. simp to_z-of_z (cut_high _ x _ _ _ _ _ _ less size c.quotient-spare.ensures new l p);
    }

use Rattle.std.proofs.Common.{◌≤ℤ◌, ◌^◌, pos, arith, SFits, w64}
use Rattle.std.proofs.lemmas.Int.{ints, to_z-of_z}
use Rattle.ch_space.proofs.Narrowed.{least_above_ok, least_too_far}
use Rattle.ch_space.proofs.after.least_beyond.Goals as goal

pub returns-then-value-ge-LARGEST_END : goal.returns-then-value-ge-LARGEST_END
returns-then-value-ge-LARGEST_END c =
    let fits : SFits w64 c.args.value = c.ranges.value in
    let test = simp to_z-of_z at c.if-value-ge-LARGEST_END.true in
    let far : pos (2 ^ 54) ≤ℤ c.args.value = grind (arith, ints) in
    least_too_far c.args.piece.now c.args.fixed.now c.args.value c.known.ensures far

pub returns : goal.returns
returns c =
    let fits : SFits w64 c.args.value = c.ranges.value in
    least_above_ok c.args.piece.now c.args.fixed.now c.args.value _ c.as_slice.result.now c.push.new.self c.in_ok-front.front c.least_in.result c.known.ensures (omega (arith, ints, to_z-of_z w64 c.args.value fits)) (omega (arith, ints)) c.as_slice.ensures c.in_ok-push.ensures.ok c.in_ok-front.ensures c.least_in.ensures

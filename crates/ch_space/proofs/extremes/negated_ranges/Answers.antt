use Rattle.std.proofs.Common.{pos, get_or, arith}
use Rattle.std.proofs.lemmas.Int.{ints}
use Rattle.ch_affine.specs.Rows.{IsBox}
use Rattle.ch_affine.specs.declared.system.Range.{Range}
use Rattle.ch_space.proofs.Turning.{ranges_more}
use Rattle.ch_space.proofs.extremes.negated_ranges.Goals as goal

abbrev nothing : Range
nothing = record { low = pos 0; high = pos 0 }

pub loop-range-preserved : goal.loop-range-preserved
loop-range-preserved c =
    let b : IsBox (get_or c.args.boxes.now c.loop-range.range-index nothing) = c.requires c.loop-range.range-index nothing c.loop-range-test.true in
    let low = b.low in
    let high = b.high in
    ranges_more c.args.boxes.now c.loop-range.others c.push.new.self c.loop-range.range-index nothing _ _ c.loop-range-test.true c.loop-range.invariant c.in_ok-push.ensures.ok
    (omega (arith, ints)) (omega (arith, ints))

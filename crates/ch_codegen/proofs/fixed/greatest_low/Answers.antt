use Rattle.std.proofs.Common.{rules, SFits, w64}
use Rattle.std.proofs.lemmas.Int.{to_z-of_z}
use Rattle.ch_codegen.proofs.Fixes.{low_start, low_more, low_whole}
use Rattle.ch_codegen.proofs.fixed.greatest_low.Goals as goal

pub loop-bound-init : goal.loop-bound-init
loop-bound-init c =
    let r : SFits w64 c.low_of-low.result = search rules in
    simp to_z-of_z (low_start c.args.lows.now c.index-lows-0.result c.low_of-low.result c.requires.some c.index-lows-0.is c.requires.numbers c.requires.divisors c.low_of-low.ensures.value)

pub loop-bound-preserved : goal.loop-bound-preserved
loop-bound-preserved c =
    let r : SFits w64 c.low_of.result = search rules in
    let t : SFits w64 c.greater-low.result = search rules in
    let theirs = simp to_z-of_z at c.greater-low.ensures.theirs in
    let one = simp to_z-of_z at c.greater-low.ensures.one in
    simp to_z-of_z
    (low_more c.args.lows.now c.loop-bound.bound-index c.bound-item.result _ c.low_of.result c.greater-low.result c.loop-bound-test.true c.bound-item.is c.requires.numbers c.requires.divisors
    c.low_of.ensures.value c.greater-low.ensures.ours theirs one c.loop-bound.invariant)

pub returns : goal.returns
returns c = low_whole c.args.lows.now c.loop-bound.bound-index _ c.loop-bound-test.false c.loop-bound.invariant

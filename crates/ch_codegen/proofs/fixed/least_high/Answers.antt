use Rattle.std.proofs.Common.{rules, SFits, w64}
use Rattle.std.proofs.lemmas.Int.{to_z-of_z}
use Rattle.ch_codegen.proofs.Fixes.{high_start, high_more, high_whole}
use Rattle.ch_codegen.proofs.fixed.least_high.Goals as goal

pub loop-bound-init : goal.loop-bound-init
loop-bound-init c =
    let r : SFits w64 c.high_of-high.result = search rules in
    simp to_z-of_z (high_start c.args.highs.now c.index-highs-0.result c.high_of-high.result c.requires.some c.index-highs-0.is c.requires.numbers c.requires.divisors c.high_of-high.ensures.value)

pub loop-bound-preserved : goal.loop-bound-preserved
loop-bound-preserved c =
    let r : SFits w64 c.high_of.result = search rules in
    let t : SFits w64 c.lesser-high.result = search rules in
    let theirs = simp to_z-of_z at c.lesser-high.ensures.theirs in
    let one = simp to_z-of_z at c.lesser-high.ensures.one in
    simp to_z-of_z
    (high_more c.args.highs.now c.loop-bound.bound-index c.bound-item.result _ c.high_of.result c.lesser-high.result c.loop-bound-test.true c.bound-item.is c.requires.numbers c.requires.divisors
    c.high_of.ensures.value c.lesser-high.ensures.ours theirs one c.loop-bound.invariant)

pub returns : goal.returns
returns c = high_whole c.args.highs.now c.loop-bound.bound-index _ c.loop-bound-test.false c.loop-bound.invariant

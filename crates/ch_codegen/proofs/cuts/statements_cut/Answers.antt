use Rattle.std.proofs.Common.{◌+ℤ◌, pos, to_z, rules, arith, SFits, w64}
use Rattle.std.proofs.lemmas.Int.{ints, to_z-of_z}
use Rattle.ch_codegen.proofs.Listing.{natural_falls, next_fits}
use Rattle.ch_codegen.proofs.cuts.statements_cut.Goals as goal

pub loop-low-smaller : goal.loop-low-smaller
loop-low-smaller c =
    let b = c.whole_range-whole.ensures.fits in
    let top = b.high in
    let bottom = b.low in
    let h : SFits w64 c.whole_range-whole.result.high = omega (arith, ints, top) in
    let r : SFits w64 c.cut_end-high.result = search rules in
    let before = simp to_z-of_z at c.cut_end-high.ensures.before in
    let after = c.cut_end-high.ensures.after in
    let first = c.loop-low.invariant in
    let n : SFits w64 (c.cut_end-high.result +ℤ pos 1) = next_fits c.cut_end-high.result _ c.whole_range-whole.result.low c.whole_range-whole.result.high after first before top bottom in
    simp to_z-of_z (natural_falls c.whole_range-whole.result.high (to_z w64 c.loop-low.low-bits) (c.cut_end-high.result +ℤ pos 1) (omega (arith, ints, after)) (omega (arith, ints, after, before)))

pub loop-low-preserved : goal.loop-low-preserved
loop-low-preserved c =
    let b = c.whole_range-whole.ensures.fits in
    let top = b.high in
    let bottom = b.low in
    let h : SFits w64 c.whole_range-whole.result.high = omega (arith, ints, top) in
    let r : SFits w64 c.cut_end-high.result = search rules in
    let before = simp to_z-of_z at c.cut_end-high.ensures.before in
    let after = c.cut_end-high.ensures.after in
    let first = c.loop-low.invariant in
    let n : SFits w64 (c.cut_end-high.result +ℤ pos 1) = next_fits c.cut_end-high.result _ c.whole_range-whole.result.low c.whole_range-whole.result.high after first before top bottom in
    simp to_z-of_z (omega (arith, ints, after, first))

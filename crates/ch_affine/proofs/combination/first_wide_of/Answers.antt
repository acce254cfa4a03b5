use Rattle.std.proofs.Common.{pos, sym, get_or, rules, SFits, w64}
use Rattle.std.specs.Int.{w128}
use Rattle.std.proofs.lemmas.Int.{to_z-of_z}
use Rattle.ch_affine.proofs.Combines.{wide_here, wide_later, wide_last}
use Rattle.ch_affine.proofs.combination.first_wide_of.Goals as goal

pub returns-then-passes : goal.returns-then-passes
returns-then-passes c =
    let a : SFits w64 c.args.a = c.ranges.a in
    let b : SFits w64 c.args.b = c.ranges.b in
    let l : SFits w64 c.args.limit = c.ranges.limit in
    let s : SFits w128 c.args.constant = c.ranges.constant in
    let x : SFits w64 (get_or c.args.xs.now c.loop-k.k (pos 0)) = search rules in
    let y : SFits w64 (get_or c.args.ys.now c.loop-k.k (pos 0)) = search rules in
    let r : SFits w128 c.mixed-value.result = search rules in
    let is = simp to_z-of_z at c.mixed-value.ensures.value in
    let wide = simp to_z-of_z at (sym c.if-passes.ensures) in
    let more = simp to_z-of_z at c.loop-k.invariant in
    simp to_z-of_z (wide_here _ _ _ _ _ _ c.loop-k.k _ _ c.loop-k-test.true c.requires.same is wide more)

pub loop-k-preserved : goal.loop-k-preserved
loop-k-preserved c =
    let a : SFits w64 c.args.a = c.ranges.a in
    let b : SFits w64 c.args.b = c.ranges.b in
    let l : SFits w64 c.args.limit = c.ranges.limit in
    let s : SFits w128 c.args.constant = c.ranges.constant in
    let x : SFits w64 (get_or c.args.xs.now c.loop-k.k (pos 0)) = search rules in
    let y : SFits w64 (get_or c.args.ys.now c.loop-k.k (pos 0)) = search rules in
    let r : SFits w128 c.mixed-value.result = search rules in
    let is = simp to_z-of_z at c.mixed-value.ensures.value in
    let wide = simp to_z-of_z at (sym c.if-passes.ensures) in
    let more = simp to_z-of_z at c.loop-k.invariant in
    simp to_z-of_z (wide_later _ _ _ _ _ _ c.loop-k.k _ _ c.loop-k-test.true c.requires.same is wide more)

pub returns-then-passes-2 : goal.returns-then-passes-2
returns-then-passes-2 c =
    let a : SFits w64 c.args.a = c.ranges.a in
    let b : SFits w64 c.args.b = c.ranges.b in
    let l : SFits w64 c.args.limit = c.ranges.limit in
    let s : SFits w128 c.args.constant = c.ranges.constant in
    let wide = simp to_z-of_z at (sym c.if-passes-2.ensures) in
    let more = simp to_z-of_z at c.loop-k.invariant in
    simp to_z-of_z (rw wide at (wide_last _ _ _ _ _ _ c.loop-k.k _ c.loop-k-test.false more))

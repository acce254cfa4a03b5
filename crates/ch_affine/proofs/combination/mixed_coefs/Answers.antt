use Rattle.std.proofs.Common.{pos, get_or, rules, SFits, w64, ◌∙◌}
use Rattle.std.specs.Int.{w128}
use Rattle.std.proofs.lemmas.Int.{to_z-of_z}
use Rattle.ch_affine.proofs.Combines.{mixed_here, mixed_later}
use Rattle.ch_affine.proofs.combination.mixed_coefs.Goals as goal

pub narrowed-requires : goal.narrowed-requires
narrowed-requires c =
    let a : SFits w64 c.args.a = c.ranges.a in
    let b : SFits w64 c.args.b = c.ranges.b in
    let x : SFits w64 (get_or c.args.xs.now c.loop-k.k (pos 0)) = search rules in
    let y : SFits w64 (get_or c.args.ys.now c.loop-k.k (pos 0)) = search rules in
    let r : SFits w128 c.mixed.result = search rules in
    let is = simp to_z-of_z at c.mixed.ensures.value in
    let more = simp to_z-of_z at c.loop-k.invariant in
    simp to_z-of_z (mixed_here _ _ _ _ c.loop-k.k _ c.loop-k.coefs c.loop-k-test.true c.requires.same is more c.requires.small)

pub loop-k-preserved : goal.loop-k-preserved
loop-k-preserved c =
    let a : SFits w64 c.args.a = c.ranges.a in
    let b : SFits w64 c.args.b = c.ranges.b in
    let x : SFits w64 (get_or c.args.xs.now c.loop-k.k (pos 0)) = search rules in
    let y : SFits w64 (get_or c.args.ys.now c.loop-k.k (pos 0)) = search rules in
    let r : SFits w128 c.mixed.result = search rules in
    let n : SFits w64 c.narrowed.result = search rules in
    let is = simp to_z-of_z at c.mixed.ensures.value in
    let same = simp to_z-of_z at c.narrowed.ensures in
    let more = simp to_z-of_z at c.loop-k.invariant in
    rw c.in_ok-push.ensures.ok (simp to_z-of_z (mixed_later _ _ _ _ c.loop-k.k _ c.loop-k.coefs c.loop-k-test.true c.requires.same (same ∙ is) more))

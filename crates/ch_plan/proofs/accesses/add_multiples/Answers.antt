use Rattle.std.proofs.Common.{rules, refl, get_or, pos, arith, SFits, w64}
use Rattle.std.proofs.lemmas.Int.{to_z-of_z}
use Rattle.ch_plan.proofs.Forming.{multiples_on}
use Rattle.ch_plan.proofs.accesses.add_multiples.Goals as goal

pub loop-k-preserved : goal.loop-k-preserved
loop-k-preserved c = λ xs.
    let f : SFits w64 c.args.factor = c.ranges.factor in
    let o : SFits w64 (get_or c.args.others.now c.loop-k.k (pos 0)) = search rules in
    let a : SFits w64 (get_or c.loop-k.coefs c.loop-k.k (pos 0)) = search rules in
    let t : SFits w64 c.times.result = search rules in
    let p : SFits w64 c.plus.result = search rules in
    let m = simp to_z-of_z at c.times.ensures in
    let s = simp to_z-of_z at c.plus.ensures in
    let before = simp to_z-of_z at (c.loop-k.invariant xs) in
    simp to_z-of_z (multiples_on c.loop-k.coefs _ c.args.others.now xs c.loop-k.k c.args.factor c.times.result c.plus.result _ (omega arith) (omega arith) m s refl before)

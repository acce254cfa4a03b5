use Rattle.std.proofs.Common.{length, refl, ◌≡◌, arith, rules, SFits}
use Rattle.std.specs.Int.{w128}
use Rattle.std.proofs.lemmas.Int.{to_z-of_z}
use Rattle.ch_poly.specs.Mixes.{IsEqualTo}
use Rattle.ch_poly.proofs.Equal.{missed_empty}
use Rattle.ch_poly.proofs.Meeting.{empty_back}
use Rattle.ch_poly.proofs.equality.narrow_by_equality.Goals as goal

pub returns-then-misses-clause-keeps : goal.returns-then-misses-clause-keeps
returns-then-misses-clause-keeps c =
    let v : SFits w128 c.args.e.now.value = search rules in
    let same : length c.args.e.now.coefs.now ≡ length c.narrow_both.new.lows = omega (arith, c.requires.same, c.narrow_both.ensures.inside.same_lows) in
    let m = simp to_z-of_z at (c.if-misses.ensures refl) in
    empty_back (IsEqualTo c.args.e.now.coefs.now c.args.e.now.value) _ _ _ _ c.in-Some.ensures.keeps
    (missed_empty _ _ c.narrow_both.new.lows c.narrow_both.new.highs same c.narrow_both.ensures.boxed.same m)

use Rattle.std.proofs.Common.{◌≡◌, ◌≤◌, ◌<◌, ◌^◌, ◌+ℤ◌, pos, unsigned_abs, length, get_or, set, List, ℤ, sym, ap, subst, refl, of_z, arith, rules, SFits, w64}
use Rattle.std.proofs.lemmas.Int.{ints, to_z-of_z}
use Rattle.ch_poly.specs.Boxes.{at, IsBoxed}
use Rattle.ch_poly.specs.Goals.{Keeps}
use Rattle.ch_poly.specs.Mixes.{IsEqualTo}
use Rattle.ch_poly.proofs.Equal.{single_empty}
use Rattle.ch_poly.proofs.Least.{raised_boxed, raised_inside, raised_fewer, raised_keeps}
use Rattle.ch_poly.proofs.Ranges.{inside_then}
use Rattle.ch_poly.proofs.equality.raise.Goals as goal

pub returns-then-lows-k-clause-keeps : goal.returns-then-lows-k-clause-keeps
returns-then-lows-k-clause-keeps c =
    let within : c.args.k < length c.loop.lows = omega (arith, c.loop.invariant.inside.same_lows, c.requires.within) in
    let l : SFits w64 (get_or c.loop.lows c.args.k (pos 0)) = search rules in
    let h : SFits w64 (get_or c.misses_lowest.new.highs c.args.k (pos 0)) = search rules in
    let now : at c.loop.lows c.args.k ≡ at c.misses_lowest.new.highs c.args.k = grind (arith, ints, to_z-of_z) in
    let P : List ℤ → Type 0 = λ highs. at c.loop.lows c.args.k ≡ at highs c.args.k in
    let same : at c.loop.lows c.args.k ≡ at c.loop.highs c.args.k = subst P c.misses_lowest.ensures.highs now in
    single_empty (IsEqualTo c.args.e.now.coefs.now c.args.e.now.value) _ _ c.loop.lows c.loop.highs c.args.k c.loop.invariant.keeps c.loop.invariant.boxed within same
    (c.if-not-misses_lowest.ensures.empty refl)

pub loop-preserved : goal.loop-preserved
loop-preserved c =
    let within : c.args.k < length c.loop.lows = omega (arith, c.loop.invariant.inside.same_lows, c.requires.within) in
    let small : unsigned_abs (at c.loop.lows c.args.k) ≤ 2 ^ 54 = c.loop.invariant.boxed.low_small _ _ within in
    let a : SFits w64 (get_or c.loop.lows c.args.k (pos 0)) = omega (arith, ints) in
    let b : SFits w64 c.one_more.result = search rules in
    let h : SFits w64 (get_or c.misses_lowest.new.highs c.args.k (pos 0)) = search rules in
    let one : c.one_more.result ≡ at c.loop.lows c.args.k +ℤ pos 1 = simp to_z-of_z at c.one_more.ensures in
    let e = c.misses_lowest.ensures.highs in
    let Q : List ℤ → Type 0 = λ highs. at c.loop.lows c.args.k ≡ at highs c.args.k in
    let open_now : at c.loop.lows c.args.k ≡ at c.loop.highs c.args.k → ⊥ = λ s. c.if-lows-k.false (ap (of_z w64) (subst Q (sym e) s)) in
    let P = IsEqualTo c.args.e.now.coefs.now c.args.e.now.value in
    let box : IsBoxed (set c.loop.lows c.args.k c.one_more.result) c.loop.highs = raised_boxed c.loop.lows c.loop.highs c.args.k c.one_more.result c.loop.invariant.boxed within one open_now in
    let rise = raised_inside c.loop.lows c.loop.highs c.args.k c.one_more.result c.loop.invariant.boxed within one in
    let fewer = raised_fewer c.loop.lows c.loop.highs c.args.k c.one_more.result c.loop.invariant.boxed within one open_now in
    let keeps : Keeps P c.args.lows.now c.args.highs.now (set c.loop.lows c.args.k c.one_more.result) c.loop.highs =
    raised_keeps P _ _ c.loop.lows c.loop.highs c.args.k c.one_more.result c.loop.invariant.keeps c.loop.invariant.boxed within one (c.if-not-misses_lowest.ensures.empty refl) in
    rw e (simp to_z-of_z (record {
      boxed = box;
      inside = inside_then _ _ _ _ _ _ c.loop.invariant.inside rise;
      keeps = keeps;
      narrower = omega (arith, fewer, c.loop.invariant.narrower);
    }))

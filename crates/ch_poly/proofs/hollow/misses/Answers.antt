use Rattle.std.proofs.Common.{◌≡◌, ◌-ℤ◌, ℕ, unsigned_abs, subst, sym, arith, rules, SFits}
use Prim.Native.Nat.{◌∣◌}
use Rattle.std.specs.Int.{w128}
use Rattle.std.proofs.lemmas.Int.{ints}
use Rattle.ch_poly.specs.Boxes.{peaks}
use Rattle.ch_poly.proofs.hollow.misses.Goals as goal

pub returns : goal.returns
returns c = λ t.
    let f : SFits w128 c.most.result = search rules in
    let b : SFits w128 c.args.bound = c.ranges.bound in
    let e : c.abs_diff.result ≡ unsigned_abs (peaks c.args.coefs.now c.args.lows.now c.args.highs.now -ℤ c.args.bound) = omega (arith, ints, c.most.ensures, c.abs_diff.ensures) in
    let P : ℕ → Type 0 = λ n. c.open_divisor-divisor.result ∣ n in
    record { divisor = c.open_divisor-divisor.result; divides = c.open_divisor-divisor.ensures; not = λ d. c.lacks.ensures t (subst P (sym e) d) }

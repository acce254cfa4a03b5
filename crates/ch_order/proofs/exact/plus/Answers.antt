use Rattle.std.proofs.Common.{◌≡◌, ◌≤◌, ◌+◌, ◌^◌, ◌+ℤ◌, ap₂, ◌∙◌, unsigned_abs, arith, to_z, of_z}
use Rattle.std.specs.Int.{w128}
use Rattle.std.proofs.lemmas.Int.{ints}
use Rattle.ch_order.specs.WideNumbers.{number}
use Rattle.ch_order.proofs.WideSums.{parts_added, quotient_bound}
use Rattle.ch_order.proofs.exact.plus.Goals as goal

pub returns-clause-value : goal.returns-clause-value
returns-clause-value c =
    let t : to_z w128 (of_z w128 (to_z w128 (of_z w128 c.args.sum.low) +ℤ to_z w128 (of_z w128 c.args.more))) ≡ c.args.sum.low +ℤ c.args.more = omega (arith, ints) in
    let q : unsigned_abs c.div_euclid.result ≤ 2 ^ 62 + 2 = quotient_bound _ c.div_euclid.result c.div_euclid.ensures (omega (arith, ints)) in
    let high : to_z w128 (of_z w128 (to_z w128 (of_z w128 c.args.sum.high) +ℤ to_z w128 (of_z w128 c.div_euclid.result))) ≡ c.args.sum.high +ℤ c.div_euclid.result = omega (arith, ints) in
    let low : to_z w128 (of_z w128 c.rem_euclid-low.result) ≡ c.rem_euclid-low.result = omega (arith, ints) in
    ap₂ number high low ∙ parts_added c.args.sum.high c.args.sum.low c.args.more _ c.div_euclid.result c.rem_euclid-low.result t c.div_euclid.ensures c.rem_euclid-low.ensures.value

pub returns-clause-high : goal.returns-clause-high
returns-clause-high c =
    let q : unsigned_abs c.div_euclid.result ≤ 2 ^ 62 + 2 = quotient_bound _ c.div_euclid.result c.div_euclid.ensures (omega (arith, ints)) in
    omega (arith, ints)

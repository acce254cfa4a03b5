use Rattle.std.proofs.Common.{◌≡◌, ◌*ℤ◌, ap₂, to_z, of_z, arith}
use Rattle.std.specs.Int.{w128}
use Rattle.std.proofs.lemmas.Int.{ints}
use Rattle.ch_order.proofs.WideSums.{small_times}
use Rattle.ch_order.proofs.exact.small_product.Goals as goal

pub returns-clause-value : goal.returns-clause-value
returns-clause-value c =
    let a : to_z w128 (of_z w128 c.args.a) ≡ c.args.a = omega (arith, ints) in
    let b : to_z w128 (of_z w128 c.args.b) ≡ c.args.b = omega (arith, ints) in
    let small = small_times c.args.a c.args.b c.requires.first c.requires.second in
    let same = ap₂ (λ x y. x *ℤ y) a b in
    omega (arith, ints)

pub returns-clause-bound : goal.returns-clause-bound
returns-clause-bound c =
    let a : to_z w128 (of_z w128 c.args.a) ≡ c.args.a = omega (arith, ints) in
    let b : to_z w128 (of_z w128 c.args.b) ≡ c.args.b = omega (arith, ints) in
    let small = small_times c.args.a c.args.b c.requires.first c.requires.second in
    let same = ap₂ (λ x y. x *ℤ y) a b in
    omega (arith, ints)

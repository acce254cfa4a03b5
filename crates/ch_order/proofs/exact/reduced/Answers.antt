use Rattle.std.proofs.Common.{rules, ◌≡◌, ◌<◌, ◌^◌, ◌+ℤ◌, ◌*ℤ◌, pos, unsigned_abs, ap, ap₂, ◌∙◌, SFits, to_z, of_z, arith}
use Rattle.std.specs.Int.{int_rem_euclid, w128}
use Rattle.std.proofs.lemmas.Int.{ints}
use Rattle.ch_order.specs.WideNumbers.{number}
use Rattle.ch_order.proofs.WideSums.{reduced_number}
use Rattle.ch_order.proofs.exact.reduced.Goals as goal

pub returns-clause-value : goal.returns-clause-value
returns-clause-value c =
    let m : to_z w128 c.args.modulus ≡ pos c.args.modulus = omega (arith, ints) in
    let fits : SFits w128 c.args.value.high = search rules in
    let h : c.rem_euclid.result ≡ int_rem_euclid c.args.value.high (pos c.args.modulus) = c.rem_euclid.ensures.value ∙ ap₂ int_rem_euclid (omega (arith, ints)) m in
    let w : c.rem_euclid-weight.result ≡ int_rem_euclid (pos (2 ^ 64)) (pos c.args.modulus) = c.rem_euclid-weight.ensures.value ∙ ap (int_rem_euclid (pos (2 ^ 64))) m in
    let weight : to_z w128 (of_z w128 c.rem_euclid-weight.result) ≡ c.rem_euclid-weight.result = omega (arith, ints) in
    let upper : to_z w128 (of_z w128 c.rem_euclid.result) ≡ c.rem_euclid.result = omega (arith, ints) in
    let p : c.small_product.result ≡ c.rem_euclid.result *ℤ c.rem_euclid-weight.result = c.small_product.ensures.value ∙ ap₂ (λ x y. x *ℤ y) upper weight in
    let t : to_z w128 (of_z w128 (to_z w128 (of_z w128 c.small_product.result) +ℤ to_z w128 (of_z w128 c.args.value.low))) ≡ c.small_product.result +ℤ c.args.value.low = omega (arith, ints) in
    let low : to_z w128 (of_z w128 c.rem_euclid-2.result) ≡ c.rem_euclid-2.result = omega (arith, ints) in
    let r : c.rem_euclid-2.result ≡ int_rem_euclid (c.small_product.result +ℤ c.args.value.low) (pos c.args.modulus) = c.rem_euclid-2.ensures.value ∙ ap₂ int_rem_euclid t m in
    ap (number (pos 0)) low
    ∙ reduced_number c.args.modulus c.args.value.high c.args.value.low c.rem_euclid.result c.rem_euclid-weight.result (c.small_product.result +ℤ c.args.value.low) c.rem_euclid-2.result
    c.if-modulus-eq0.false h w (ap (λ z. z +ℤ c.args.value.low) p) r

pub returns-clause-low : goal.returns-clause-low
returns-clause-low c =
    let m : to_z w128 c.args.modulus ≡ pos c.args.modulus = omega (arith, ints) in
    let least = c.rem_euclid-2.ensures.lower_bound in
    let most : unsigned_abs c.rem_euclid-2.result < c.args.modulus = rw m at c.rem_euclid-2.ensures.upper_bound in
    (grind (arith, ints), omega (arith, ints))

use Rattle.std.proofs.Common.{ℕ, pos, get_or, subst, rules, SFits, w64}
use Rattle.std.specs.Int.{IsGcd}
use Rattle.std.proofs.lemmas.Int.{to_z-of_z}
use Rattle.ch_poly.proofs.Divides.{divisor_step}
use Rattle.ch_poly.proofs.divisor.common_divisor.Goals as goal

pub loop-k-preserved : goal.loop-k-preserved
loop-k-preserved c =
    let f : SFits w64 (get_or c.args.numbers.now c.loop-k.k (pos 0)) = search rules in
    let e = simp to_z-of_z at c.unsigned_abs.ensures.value in
    let P : ℕ → Type 0 = λ n. IsGcd c.loop-k.found n c.gcd-found.result in
    divisor_step c.args.numbers.now c.loop-k.k c.loop-k.found c.gcd-found.result c.loop-k.invariant.divides c.loop-k.invariant.greatest (subst P e c.gcd-found.ensures)

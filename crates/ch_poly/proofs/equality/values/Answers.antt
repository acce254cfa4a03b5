use Rattle.std.proofs.Common.{refl, rules, SFits}
use Rattle.std.specs.Int.{w128}
use Rattle.std.proofs.lemmas.Int.{to_z-of_z}
use Rattle.ch_poly.specs.Mixes.{AreOpposite}
use Rattle.ch_poly.proofs.Equal.{forced_from}
use Rattle.ch_poly.proofs.equality.values.Goals as goal

pub returns-then-are_negative-clause-opposite : goal.returns-then-are_negative-clause-opposite
returns-then-are_negative-clause-opposite c =
    let v : SFits w128 c.in-Some.value = search rules in
    let w : SFits w128 c.in-Some-by_other.opposite = search rules in
    simp to_z-of_z (record { same = c.if-are_negative.ensures.same refl; each = c.if-are_negative.ensures.each refl; sum = simp to_z-of_z at (c.if-cancel.ensures refl) })

pub returns-then-are_negative-clause-forced : goal.returns-then-are_negative-clause-forced
returns-then-are_negative-clause-forced c =
    let v : SFits w128 c.in-Some.value = search rules in
    let w : SFits w128 c.in-Some-by_other.opposite = search rules in
    let o : AreOpposite c.mix-by_sum.new.sums c.mix-by_other.new.sums c.in-Some.value c.in-Some-by_other.opposite =
    record { same = c.if-are_negative.ensures.same refl; each = c.if-are_negative.ensures.each refl; sum = simp to_z-of_z at (c.if-cancel.ensures refl) } in
    simp to_z-of_z (forced_from _ _ _ _ _ c.in-Some.ensures.implied c.in-Some-by_other.ensures.implied o)

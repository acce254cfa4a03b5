use Rattle.std.proofs.Common.{rules, SFits, w64, pos, get_or}
use Rattle.std.specs.Int.{w128}
use Rattle.std.proofs.lemmas.Int.{to_z-of_z}
use Rattle.ch_nest.proofs.Corners.{greatest_sum_first}
use Rattle.ch_nest.proofs.boxes.+greatest_sum.Goals as goal

pub returns-in-len1-up-boxes-clause-value : goal.returns-in-len1-up-boxes-clause-value
returns-in-len1-up-boxes-clause-value t c =
    let whole : SFits w128 c.plus.result = search rules in
    let front : SFits w128 c.greatest_term.result = search rules in
    let back : SFits w128 c.greatest_sum.result = search rules in
    let coef : SFits w64 (get_or c.args.coefs.now 0 (pos 0)) = search rules in
    let sum = simp to_z-of_z at c.plus.ensures.value in
    let term = simp to_z-of_z at c.greatest_term.ensures.value in
    simp to_z-of_z (greatest_sum_first c.args.coefs.now c.args.boxes.now c.greatest_term.result c.greatest_sum.result c.plus.result
    c.in-len1-up.len_at_least c.in-len1-up-boxes.len_at_least term c.greatest_sum.ensures.value sum)

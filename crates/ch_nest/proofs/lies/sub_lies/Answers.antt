use Rattle.std.proofs.Common.{rules, arith, SFits, pos, ◌≤ℤ◌, ◌<ℤ◌}
use Rattle.std.specs.Int.{w128}
use Rattle.std.proofs.lemmas.Int.{ints, to_z-of_z}
use Rattle.ch_nest.proofs.Boxed.{sub_stays}
use Rattle.ch_nest.proofs.lies.sub_lies.Goals as goal

pub returns : goal.returns
returns c =
    let l : SFits w128 c.least_in-least.result = search rules in
    let h : SFits w128 c.greatest_in-greatest.result = search rules in
    let f : SFits w128 c.from.result = search rules in
    let not_below = simp to_z-of_z at c.if-least-lt0.false in
    let low : pos 0 ≤ℤ c.least_in-least.result = grind (arith, ints) in
    let not_from = simp to_z-of_z at c.if-greatest-from.false in
    let not_past = rw c.from.ensures at not_from in
    let high : c.greatest_in-greatest.result <ℤ pos c.args.extent = grind (arith, ints) in
    λ _.
    sub_stays c.args.extent c.args.sub.now c.args.boxes.now c.least_in-least.result c.greatest_in-greatest.result c.requires.fit c.least_in-least.ensures.value
    c.greatest_in-greatest.ensures.value low high

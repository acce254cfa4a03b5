use Rattle.std.proofs.Common.{SFits, w64, rules}
use Rattle.std.specs.Int.{w128}
use Rattle.std.proofs.lemmas.Int.{to_z-of_z}
use Rattle.ch_datacopy.proofs.Ranged.{range_is}
use Rattle.ch_datacopy.proofs.ranges.range_of.Goals as goal

pub returns : goal.returns
returns c =
    let x : SFits w64 c.clamped.result = search rules in
    let y : SFits w64 c.clamped-2.result = search rules in
    let u : SFits w128 c.least_in.result = search rules in
    let v : SFits w128 c.greatest_in.result = search rules in
    simp to_z-of_z
    (range_is c.args.most c.args.boxes.now c.args.form.now c.least_in.result c.greatest_in.result c.clamped.result c.clamped-2.result c.least_in.ensures.least c.greatest_in.ensures.greatest c.requires.some
    (simp to_z-of_z at c.clamped.ensures) (simp to_z-of_z at c.clamped-2.ensures))

use Rattle.std.proofs.Common.{◌≡◌, ◌∙◌, sym, rules, SFits, w64}
use Rattle.std.proofs.lemmas.Int.{to_z-of_z}
use Rattle.ch_plan.proofs.Weighing.{residues_first}
use Rattle.ch_plan.proofs.sums.+residues_value.Goals as goal

pub returns-in-len1-up : goal.returns-in-len1-up
returns-in-len1-up t c =
    let f : SFits w64 c.first-item.result.stride = search rules in
    let r : SFits w64 c.residue_value.result = search rules in
    let h : SFits w64 c.times-here.result = search rules in
    let o : SFits w64 c.residues_value.result = search rules in
    let p : SFits w64 c.plus.result = search rules in
    let first = simp to_z-of_z at c.times-here.ensures in
    let all = simp to_z-of_z at c.plus.ensures in
    let here = rw c.residue_value.ensures at first in
    let whole = rw (here, c.residues_value.ensures) at all in
    simp to_z-of_z (whole ∙ sym (residues_first c.first-item.result c.args.residues.now c.args.point.now c.in-len1-up.len_at_least c.first-item.is))

use Rattle.std.proofs.Common.{SFits, w64, rules}
use Rattle.std.specs.Int.{w128}
use Rattle.std.proofs.lemmas.Int.{to_z-of_z}
use Rattle.ch_moved.proofs.Bounded.{bound_sure, not_below}
use Rattle.ch_moved.proofs.bounds.push_bound.Goals as goal

pub returns-else-least_in-lt0-clause-hold : goal.returns-else-least_in-lt0-clause-hold
returns-else-least_in-lt0-clause-hold c =
    let l : SFits w64 c.args.least = c.ranges.least in
    let r : SFits w128 c.least_in.result = search rules in
    bound_sure c.args.boxes.now c.args.rows.now c.in_ok-row.row c.args.form.now c.args.least (simp to_z-of_z at c.in_ok-row.ensures) c.requires.long
    (not_below c.least_in.result _ c.least_in.ensures (simp to_z-of_z at c.if-least_in-lt0.false))

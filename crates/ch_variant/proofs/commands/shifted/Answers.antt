use Rattle.std.proofs.Common.{◌∙◌, rules, SFits, w64}
use Rattle.std.proofs.lemmas.Int.{to_z-of_z}
use Rattle.ch_variant.specs.Arguments.{scope}
use Rattle.ch_variant.proofs.CommandSteps.{shifts}
use Rattle.ch_variant.proofs.commands.shifted.Goals as goal

pub returns : goal.returns
returns c =
    let l : SFits w64 c.number-level.result = search rules in
    let a : SFits w64 c.number-amount.result = search rules in
    shifts (scope c.args.setting.now.nest.now c.args.setting.now.values.now) c.args.statements.now c.args.level c.args.amount c.args.space.now c.shift.result c.as_slice.result.now c.number-level.result c.number-amount.result
    (c.as_slice.ensures ∙ c.in_ok-pieces.ensures) c.number-level.ensures c.number-amount.ensures
    (record {
      cause = simp to_z-of_z at c.shift.ensures.cause;
      list_is = simp to_z-of_z at c.shift.ensures.list;
      kept = c.shift.ensures.kept;
      no_others = c.shift.ensures.no_others;
      arrays = c.shift.ensures.arrays;
      temps = c.shift.ensures.temps;
      weight_is = c.shift.ensures.weight;
      commands = c.shift.ensures.commands;
    })

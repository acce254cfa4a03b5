use Rattle.std.proofs.Common.{◌∙◌, rules, SFits, w64}
use Rattle.std.proofs.lemmas.Int.{to_z-of_z}
use Rattle.ch_variant.specs.Arguments.{scope}
use Rattle.ch_variant.proofs.CommandSteps.{skews}
use Rattle.ch_variant.proofs.commands.skewed.Goals as goal

pub returns : goal.returns
returns c =
    let l : SFits w64 c.number-level.result = search rules in
    skews (scope c.args.setting.now.nest.now c.args.setting.now.values.now) c.args.statements.now c.args.level c.args.amounts.now c.args.space.now c.skew.result c.as_slice.result.now c.number-level.result c.as_slice-2.result.now
    (c.as_slice.ensures ∙ c.in_ok-pieces.ensures) c.number-level.ensures (c.as_slice-2.ensures ∙ c.in_ok-amounts.ensures)
    (record {
      cause = simp to_z-of_z at c.skew.ensures.cause;
      list_is = simp to_z-of_z at c.skew.ensures.list;
      kept = c.skew.ensures.kept;
      no_others = c.skew.ensures.no_others;
      arrays = c.skew.ensures.arrays;
      temps = c.skew.ensures.temps;
      weight_is = c.skew.ensures.weight;
      commands = c.skew.ensures.commands;
    })

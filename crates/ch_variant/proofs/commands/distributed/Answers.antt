use Rattle.std.proofs.Common.{◌∙◌, rules, SFits, w64}
use Rattle.std.proofs.lemmas.Int.{to_z-of_z}
use Rattle.ch_variant.specs.Arguments.{scope}
use Rattle.ch_variant.proofs.CommandSteps.{distributes}
use Rattle.ch_variant.proofs.commands.distributed.Goals as goal

pub returns : goal.returns
returns c =
    let l : SFits w64 c.number.result = search rules in
    distributes (scope c.args.setting.now.nest.now c.args.setting.now.values.now) c.args.statements.now c.args.level c.args.space.now c.distribute.result c.as_slice.result.now c.number.result
    (c.as_slice.ensures ∙ c.in_ok-pieces.ensures) c.number.ensures
    (record {
      cause = simp to_z-of_z at c.distribute.ensures.cause;
      list_is = simp to_z-of_z at c.distribute.ensures.list;
      kept = c.distribute.ensures.kept;
      no_others = c.distribute.ensures.no_others;
      arrays = c.distribute.ensures.arrays;
      temps = c.distribute.ensures.temps;
      weight_is = c.distribute.ensures.weight;
      commands = c.distribute.ensures.commands;
    })

use Rattle.std.proofs.Common.{◌∙◌, rules, SFits, w64}
use Rattle.std.proofs.lemmas.Int.{to_z-of_z}
use Rattle.ch_variant.specs.Arguments.{scope}
use Rattle.ch_variant.proofs.CommandSteps.{fuses}
use Rattle.ch_variant.proofs.commands.fused.Goals as goal

pub returns : goal.returns
returns c =
    let l : SFits w64 c.number.result = search rules in
    fuses (scope c.args.setting.now.nest.now c.args.setting.now.values.now) c.args.statements.now c.args.level c.args.space.now c.fuse.result c.as_slice.result.now c.number.result
    (c.as_slice.ensures ∙ c.in_ok-pieces.ensures) c.number.ensures
    (record {
      cause = simp to_z-of_z at c.fuse.ensures.cause;
      list_is = simp to_z-of_z at c.fuse.ensures.list;
      kept = c.fuse.ensures.kept;
      no_others = c.fuse.ensures.no_others;
      arrays = c.fuse.ensures.arrays;
      temps = c.fuse.ensures.temps;
      weight_is = c.fuse.ensures.weight;
      commands = c.fuse.ensures.commands;
    })

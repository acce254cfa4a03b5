use Rattle.std.proofs.Common.{◌∙◌, rules, SFits, of_z, to_z, w64}
use Rattle.std.proofs.lemmas.Int.{to_z-of_z}
use Rattle.ch_variant.specs.Arguments.{scope}
use Rattle.ch_variant.proofs.CommandSteps.{copies_to}
use Rattle.ch_variant.proofs.commands.copied.Goals as goal

pub returns : goal.returns
returns c =
    let n : SFits w64 c.number-piece.result = search rules in
    let l : SFits w64 c.number-level.result = search rules in
    copies_to (scope c.args.setting.now.nest.now c.args.setting.now.values.now) c.args.statement c.args.level c.args.array.now c.args.space.now c.datacopy.result
    (to_z w64 (of_z w64 c.number-piece.result)) (to_z w64 (of_z w64 c.number-level.result)) c.array_of.result
    (to_z-of_z w64 c.number-piece.result n ∙ c.number-piece.ensures) (to_z-of_z w64 c.number-level.result l ∙ c.number-level.ensures) c.array_of.ensures
    (record {
      cause = c.datacopy.ensures.cause;
      list_is = c.datacopy.ensures.list;
      temps_are = c.datacopy.ensures.temps;
      arrays = c.datacopy.ensures.arrays;
      weight_is = c.datacopy.ensures.weight;
      commands = c.datacopy.ensures.commands;
      keeps = c.datacopy.ensures.keeps;
    })

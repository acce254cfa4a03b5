use Rattle.std.proofs.Common.{rules, SFits, w64}
use Rattle.std.proofs.lemmas.Int.{to_z-of_z}
use Rattle.ch_variant.specs.Arguments.{scope}
use Rattle.ch_variant.proofs.CommandSteps.{peels}
use Rattle.ch_variant.proofs.commands.peeled.Goals as goal

pub returns : goal.returns
returns c =
    let n : SFits w64 c.number-piece.result = search rules in
    let l : SFits w64 c.number-level.result = search rules in
    let k : SFits w64 c.number.result = search rules in
    peels (scope c.args.setting.now.nest.now c.args.setting.now.values.now) c.args.statement c.args.level c.args.count c.args.space.now c.peel.result c.number-piece.result c.number-level.result c.number.result
    c.number-piece.ensures c.number-level.ensures c.number.ensures
    (record {
      cause = simp to_z-of_z at c.peel.ensures.cause;
      list_is = simp to_z-of_z at c.peel.ensures.list;
      kept = c.peel.ensures.kept;
      no_others = c.peel.ensures.no_others;
      arrays = c.peel.ensures.arrays;
      temps = c.peel.ensures.temps;
      weight_is = c.peel.ensures.weight;
      commands = c.peel.ensures.commands;
    })

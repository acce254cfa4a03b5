use Rattle.std.proofs.Common.{rules, SFits, w64}
use Rattle.std.proofs.lemmas.Int.{to_z-of_z}
use Rattle.ch_variant.specs.Arguments.{scope}
use Rattle.ch_variant.proofs.CommandSteps.{unrolls}
use Rattle.ch_variant.proofs.commands.unrolled.Goals as goal

pub returns : goal.returns
returns c =
    let n : SFits w64 c.number-piece.result = search rules in
    let l : SFits w64 c.number-level.result = search rules in
    let u : SFits w64 c.number.result = search rules in
    unrolls (scope c.args.setting.now.nest.now c.args.setting.now.values.now) c.args.statement c.args.level c.args.amount c.args.space.now c.unroll.result c.number-piece.result c.number-level.result c.number.result
    c.number-piece.ensures c.number-level.ensures c.number.ensures
    (record {
      cause = simp to_z-of_z at c.unroll.ensures.cause;
      list_is = simp to_z-of_z at c.unroll.ensures.list;
      kept = c.unroll.ensures.kept;
      no_others = c.unroll.ensures.no_others;
      arrays = c.unroll.ensures.arrays;
      temps = c.unroll.ensures.temps;
      weight_is = simp to_z-of_z at c.unroll.ensures.weight;
      commands = c.unroll.ensures.commands;
    })

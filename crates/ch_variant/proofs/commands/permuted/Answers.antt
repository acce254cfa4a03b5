use Rattle.std.proofs.Common.{◌∙◌, rules, SFits, w64}
use Rattle.std.proofs.lemmas.Int.{to_z-of_z}
use Rattle.ch_variant.specs.Arguments.{scope}
use Rattle.ch_variant.proofs.CommandSteps.{permutes}
use Rattle.ch_variant.proofs.commands.permuted.Goals as goal

pub returns : goal.returns
returns c =
    let n : SFits w64 c.number.result = search rules in
    permutes (scope c.args.setting.now.nest.now c.args.setting.now.values.now) c.args.statement c.args.order.now c.args.space.now c.permute.result c.number.result c.as_slice.result.now
    c.number.ensures (c.as_slice.ensures ∙ c.in_ok-order.ensures)
    (record {
      cause = simp to_z-of_z at c.permute.ensures.cause;
      list_is = simp to_z-of_z at c.permute.ensures.list;
      kept = c.permute.ensures.kept;
      no_others = c.permute.ensures.no_others;
      arrays = c.permute.ensures.arrays;
      temps = c.permute.ensures.temps;
      weight_is = c.permute.ensures.weight;
      commands = c.permute.ensures.commands;
    })

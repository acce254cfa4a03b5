use Rattle.std.proofs.Common.{◌∙◌, rules, SFits, w64}
use Rattle.std.proofs.lemmas.Int.{to_z-of_z}
use Rattle.ch_affine.specs.Affine.{form}
use Rattle.ch_variant.specs.Arguments.{scope}
use Rattle.ch_variant.proofs.CommandSteps.{splits}
use Rattle.ch_variant.proofs.commands.split_by.Goals as goal

pub returns : goal.returns
returns c =
    let n : SFits w64 c.number-piece.result = search rules in
    let l : SFits w64 c.number-level.result = search rules in
    let k : SFits w64 c.form.inside.constant = search rules in
    splits (scope c.args.setting.now.nest.now c.args.setting.now.values.now) c.args.statement c.args.level c.args.condition.now c.args.space.now c.split.result c.number-piece.result c.number-level.result
    (form c.form.inside.coefs c.form.inside.constant)
    c.number-piece.ensures c.number-level.ensures (c.form.view_is ∙ c.in_ok-form.ensures)
    (record {
      cause = simp to_z-of_z at c.split.ensures.cause;
      list_is = simp to_z-of_z at c.split.ensures.list;
      kept = c.split.ensures.kept;
      no_others = c.split.ensures.no_others;
      arrays = c.split.ensures.arrays;
      temps = c.split.ensures.temps;
      weight_is = c.split.ensures.weight;
      commands = c.split.ensures.commands;
    })

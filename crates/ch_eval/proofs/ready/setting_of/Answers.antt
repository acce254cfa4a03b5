use Rattle.std.proofs.Common.{◌≡◌, ◌∙◌, ap₂}
use Rattle.ch_nest.specs.CostModel.{cost_model}
use Rattle.ch_plan.specs.Divisor.{number_of}
use Rattle.ch_eval.proofs.ready.setting_of.Goals as goal

pub returns-clause-machine : goal.returns-clause-machine
returns-clause-machine c =
    ap₂ (λ l w. cost_model c.from.result c.from-2.result l w) c.divisor_of.ensures.value c.divisor_of-2.ensures.value
    ∙ ap₂ (λ t m. cost_model t m c.machine.inside.lines c.machine.inside.width) c.from.ensures c.from-2.ensures ∙ c.machine.view_is

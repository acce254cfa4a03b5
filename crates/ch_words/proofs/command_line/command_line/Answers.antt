use Rattle.std.proofs.Common.{ap₂, ◌∙◌}
use Rattle.std.proofs.lemmas.Result.{IfOk-weaker}
use Rattle.clap.specs.Words.{with_rule}
use Rattle.ch_words.proofs.command_line.command_line.Goals as goal

pub returns : goal.returns
returns c =
    let word = c.in_ok-arg.ensures.shape c.command_word.ensures.local ∙ ap₂ with_rule c.bare.ensures c.command_word.ensures.rule in
    let at = c.in_ok-arg-2.ensures.shape c.valued_option.ensures.local ∙ ap₂ with_rule word c.valued_option.ensures.rule in
    let builders = c.in_ok-arg-3.ensures.shape c.valued_option-2.ensures.local ∙ ap₂ with_rule at c.valued_option-2.ensures.rule in
    let arrays = c.in_ok-arg-4.ensures.shape c.valued_option-3.ensures.local ∙ ap₂ with_rule builders c.valued_option-3.ensures.rule in
    IfOk-weaker c.arg-5.result _ _ (λ r h. h.shape c.valued_option-4.ensures.local ∙ ap₂ with_rule arrays c.valued_option-4.ensures.rule) c.arg-5.ensures

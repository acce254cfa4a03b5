use Rattle.std.proofs.Common.{◌≡◌, ap, ◌∙◌, codes}
use Rattle.std.specs.Prelude.{Option}
use Rattle.clap.specs.Words.{Text, found_of, first_of, rows_of}
use Rattle.clap.proofs.WalkLemmas.{first_value-rows}
use Rattle.ch_words.specs.Options.{Values}
use Rattle.ch_words.proofs.options.options_in.Goals as goal

abbrev values : Option Text → Option Text → Option Text → Option Text → Values
values at builders arrays number = record { at = at; builders = builders; arrays = arrays; number = number }

same : (a b c d a' b' c' d' : Option Text) → a ≡ a' → b ≡ b' → c ≡ c' → d ≡ d' → values a b c d ≡ values a' b' c' d'
same a b c d a' b' c' d' at builders arrays number =
    ap (λ x. values x b c d) at ∙ (ap (λ x. values a' x c d) builders ∙ (ap (λ x. values a' b' x d) arrays ∙ ap (λ x. values a' b' c' x) number))

pub returns : goal.returns
returns c =
    let found = found_of c.args.matches.now in
    same _ _ _ _ _ _ _ _
    (c.get_str.ensures ∙ first_value-rows found (codes "at"))
    (c.get_str-2.ensures ∙ first_value-rows found (codes "builders"))
    (c.get_str-3.ensures ∙ first_value-rows found (codes "arrays"))
    (c.get_str-4.ensures ∙ first_value-rows found (codes "number"))

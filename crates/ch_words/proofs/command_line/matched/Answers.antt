use Rattle.std.proofs.Common.{◌≡◌, true, refl, List, map, string_bytes, ap, ◌∙◌, subst}
use Rattle.std.proofs.lemmas.Result.{IfOk-weaker}
use Rattle.clap.specs.Words.{App, Text, is_simple, is_simple_and_free, fault_of, matches_of, FailsBy}
use Rattle.clap.proofs.OnLiterals.{clap_on_literals}
use Rattle.ch_words.specs.CommandLine.{stated}
use Rattle.ch_words.proofs.command_line.matched.Goals as goal

simple : is_simple stated ≡ true
unfolding clap_on_literals
simple = refl

simple_and_free : is_simple_and_free stated ≡ true
unfolding clap_on_literals
simple_and_free = refl

pub returns : goal.returns
returns c =
    let is = c.requires in
    let words : List Text = map string_bytes c.args.words.now in
    record {
      matches = IfOk-weaker c.try_get_matches_from.result _ _ (λ m h. (h (ap is_simple is ∙ simple)).0 ∙ ap (λ (a : App). matches_of a words) is) c.try_get_matches_from.ensures.matches;
      faults = subst (λ (a : App). FailsBy (fault_of a words) c.try_get_matches_from.result) is (c.try_get_matches_from.ensures.kinds (ap is_simple_and_free is ∙ simple_and_free));
    }

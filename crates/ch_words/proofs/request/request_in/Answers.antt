use Rattle.std.proofs.Common.{◌≡◌, sym, ap, ◌∙◌, true, false, List, Some, None, option_map, option_and_then, is_some, codes}
use Rattle.std.specs.List.{list_any}
use Rattle.std.proofs.lemmas.Result.{IfOk-weaker}
use Rattle.clap.specs.Words.{Row, found_of, first_of, rows_of}
use Rattle.clap.proofs.WalkLemmas.{first_value-rows}
use Rattle.ch_words.specs.Options.{values_in, written, unused_by}
use Rattle.ch_words.specs.Requests.{request_with}
use Rattle.ch_words.proofs.Decisions.{no_word, by_word, with_unused, without_unused}
use Rattle.ch_words.proofs.request.request_in.Goals as goal

pub returns-in_default : goal.returns-in_default
returns-in_default c =
    let found = found_of c.args.matches.now in
    no_word (rows_of found) (sym (c.get_str.ensures ∙ first_value-rows found (codes "command")) ∙ ap (option_map (λ s. s.now)) c.in_default.is)

pub returns-in_default-command_named : goal.returns-in_default-command_named
returns-in_default-command_named c =
    let found = found_of c.args.matches.now in
    let word : first_of (codes "command") (rows_of found) ≡ Some c.in-Some.word.now =
    sym (c.get_str.ensures ∙ first_value-rows found (codes "command")) ∙ ap (option_map (λ s. s.now)) c.in-Some.is in
    sym (by_word (rows_of found) c.in-Some.word.now c.command_named.result word c.command_named.ensures
    ∙ ap (option_and_then (request_with (values_in (rows_of found)))) c.in_default-command_named.is)

pub returns-then-has_unused : goal.returns-then-has_unused
returns-then-has_unused c =
    let found = found_of c.args.matches.now in
    let rows : List Row = rows_of found in
    let word : first_of (codes "command") rows ≡ Some c.in-Some.word.now =
    sym (c.get_str.ensures ∙ first_value-rows found (codes "command")) ∙ ap (option_map (λ s. s.now)) c.in-Some.is in
    let unused : list_any is_some (unused_by c.in-Some-command_named.command (written c.options_in-options.result)) ≡ true =
    sym c.has_unused.ensures ∙ c.if-has_unused.true in
    sym (by_word rows c.in-Some.word.now c.command_named.result word c.command_named.ensures
    ∙ (ap (option_and_then (request_with (values_in rows))) c.in-Some-command_named.is
    ∙ with_unused rows (written c.options_in-options.result) c.in-Some-command_named.command c.options_in-options.ensures unused))

pub returns : goal.returns
returns c =
    let found = found_of c.args.matches.now in
    let rows : List Row = rows_of found in
    let word : first_of (codes "command") rows ≡ Some c.in-Some.word.now =
    sym (c.get_str.ensures ∙ first_value-rows found (codes "command")) ∙ ap (option_map (λ s. s.now)) c.in-Some.is in
    let unused : list_any is_some (unused_by c.in-Some-command_named.command (written c.options_in-options.result)) ≡ false =
    sym c.has_unused.ensures ∙ c.if-has_unused.false in
    let decided = by_word rows c.in-Some.word.now c.command_named.result word c.command_named.ensures
    ∙ (ap (option_and_then (request_with (values_in rows))) c.in-Some-command_named.is
    ∙ without_unused rows (written c.options_in-options.result) c.in-Some-command_named.command c.options_in-options.ensures unused) in
    IfOk-weaker c.request_by.result _ _ (λ r h. h ∙ sym decided) c.request_by.ensures

-- How the command word and the faults decide what the words ask for.
use Rattle.std.proofs.Common.{◌≡◌, refl, sym, ap, ◌∙◌, true, false, if◌then◌else◌, List, [], ◌∷◌, Option, Some, None, option_and_then, is_some, codes}
use Rattle.std.specs.List.{list_any}
use Rattle.clap.specs.Words.{Row, Text, first_of, IsAmong}
use Rattle.clap.specs.Kinds.{Kinds}
use Rattle.clap.specs.declared.error.kind.ErrorKind.{ErrorKind}
use Rattle.ch_words.specs.declared.options.CommandName.{CommandName}
use Rattle.ch_words.specs.declared.request.Request.{Request}
use Rattle.ch_words.specs.Options.{Values, command_named, values_in, unused_by}
use Rattle.ch_words.specs.Requests.{request_in, request_with, request_by, unless_faulty}

pub no_word : (rows : List Row) → first_of (codes "command") rows ≡ None → None ≡ request_in rows
no_word rows e = sym (ap (λ w. option_and_then (request_with (values_in rows)) (option_and_then command_named w)) e)

pub by_word : (rows : List Row) (word : Text) (command : Option CommandName) → first_of (codes "command") rows ≡ Some word → command ≡ command_named word
    → request_in rows ≡ option_and_then (request_with (values_in rows)) command
by_word rows word command e f =
    ap (λ w. option_and_then (request_with (values_in rows)) (option_and_then command_named w)) e
    ∙ ap (option_and_then (request_with (values_in rows))) (sym f)

pub with_unused : (rows : List Row) (v : Values) (command : CommandName) → v ≡ values_in rows → list_any is_some (unused_by command v) ≡ true
    → request_with (values_in rows) command ≡ None
with_unused rows v command e h =
    ap (λ w. request_with w command) (sym e) ∙ ap (λ t. if t then None else request_by command v) h

pub without_unused : (rows : List Row) (v : Values) (command : CommandName) → v ≡ values_in rows → list_any is_some (unused_by command v) ≡ false
    → request_with (values_in rows) command ≡ request_by command v
without_unused rows v command e h =
    ap (λ w. request_with w command) (sym e) ∙ ap (λ t. if t then None else request_by command v) h

pub by_fault : (kinds : Kinds) (kind : ErrorKind) (request : Option Request) → IsAmong kind kinds → None ≡ unless_faulty kinds request
by_fault [] kind request h = absurd h
by_fault (k ∷ ks) kind request h = refl

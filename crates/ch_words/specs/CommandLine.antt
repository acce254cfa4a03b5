-- The command line, as clap reads it.
use Rattle.std.specs.Prelude.{codes, Some, true}
use Rattle.clap.specs.Words.{App, Rule, Text, new_app, new_rule, with_rule}
use Rattle.clap.specs.Simple.{on_top}

-- an option with one value
abbrev pub valued_option : Text → Rule
valued_option name = record (new_rule name) { long = Some name }

-- the one word that must stand there
abbrev pub command_word : Rule
command_word = record (new_rule (codes "command")) { required = true }

-- no word for the program itself, and no help flag
abbrev pub bare : App
bare = on_top (λ s. record s { no_binary_name = true; disable_help_flag = true }) (new_app (codes "chilltune"))

-- the command word and four options, which may stand before or after it
abbrev pub stated : App
stated =
    with_rule (with_rule (with_rule (with_rule (with_rule bare
    command_word)
    (valued_option (codes "at")))
    (valued_option (codes "builders")))
    (valued_option (codes "arrays")))
    (valued_option (codes "number"))

-- What the words of the command line ask for.
use Rattle.std.specs.Prelude.{ℕ, Bool, true, false, if◌then◌else◌, List, [], ◌∷◌, Option, Some, None, IfSome, option_map, option_and_then, is_some, codes}
use Rattle.std.specs.List.{All, list_any}
use Rattle.clap.specs.Words.{Row, Text, first_of, fault_of, matches_of}
use Rattle.clap.specs.Kinds.{Kinds}
use Rattle.ch_words.specs.declared.options.CommandName.{CommandName}
use Rattle.ch_words.specs.declared.options.CommandName.TheVariants as names
use Rattle.ch_words.specs.declared.request.Request.{Request}
use Rattle.ch_words.specs.declared.request.Request.TheVariants.{Eval, Check, Show, Search, Run, Replay, Demo}
use Rattle.ch_affine.specs.Affine.{IsAtMost}
use Rattle.ch_words.specs.CommandLine.{stated}
use Rattle.ch_words.specs.Numbers.{largest_value}
use Rattle.ch_words.specs.Options.{Values, command_named, values_in, unused_by, place_of, builders_of, sums_of, deck_number_of}

abbrev pub run_by : Values → Option Request
run_by v = option_and_then (λ builders. option_map (λ sums. Run builders sums) (sums_of v.arrays)) (builders_of v.builders)

-- what a command is asked to do, if the values of its options are such as it takes
abbrev pub request_by : CommandName → Values → Option Request
request_by names.Eval v = option_map (λ sums. Eval sums) (sums_of v.arrays)
request_by names.Check v = option_map (λ at. Check at) (place_of v.at)
request_by names.Show v = option_map (λ at. Show at) (place_of v.at)
request_by names.Search v = Some Search
request_by names.Run v = run_by v
request_by names.Replay v = Some Replay
request_by names.Demo v = option_map (λ number. Demo number) (deck_number_of v.number)

-- the same, if no option is there that the command doesn't use
abbrev pub request_with : Values → CommandName → Option Request
request_with v command = if list_any is_some (unused_by command v) then None else request_by command v

-- the command word decides
abbrev pub request_in : List Row → Option Request
request_in rows = option_and_then (request_with (values_in rows)) (option_and_then command_named (first_of (codes "command") rows))

abbrev pub unless_faulty : Kinds → Option Request → Option Request
unless_faulty [] request = request
unless_faulty (kind ∷ kinds) request = None

-- What the words after the program's name ask for. There is none exactly where they aren't in the stated set: where clap finds a fault, the first word that is no
-- option isn't the name of a command, an option is there that the command doesn't use, or a value isn't such as it takes.
abbrev pub request_of : List Text → Option Request
request_of words = unless_faulty (fault_of stated words) (request_in (matches_of stated words))

-- the values of a point, where they are given, are of a magnitude that is read
abbrev pub HasSmallValues : Request → Type 0
HasSmallValues (Check at) = IfSome at (All (IsAtMost largest_value))
HasSmallValues (Show at) = IfSome at (All (IsAtMost largest_value))
HasSmallValues other = Unit {0}

-- whether what is asked for is about the input: `demo` makes its deck from a number
abbrev pub reads_input : Request → Bool
reads_input (Demo number) = false
reads_input other = true

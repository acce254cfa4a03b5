-- The commands, and what the values of their options say.
use Rattle.std.specs.Prelude.{ℕ, Bool, true, false, if◌then◌else◌, ℤ, List, [], ◌∷◌, Option, Some, None, option_map, option_and_then, codes}
use Rattle.std.specs.Str.{bytes_eq}
use Rattle.clap.specs.Words.{Row, Text, first_of}
use Rattle.ch_words.specs.declared.options.CommandName.{CommandName}
use Rattle.ch_words.specs.declared.options.CommandName.TheVariants.{Eval, Check, Show, Search, Run, Replay, Demo}
use Rattle.ch_words.specs.declared.options.Options.{Options}
use Rattle.ch_words.specs.Numbers.{natural_of, wholes_of, most_builders, largest_number}

abbrev pub command_named : Text → Option CommandName
command_named word =
    if bytes_eq word (codes "eval") then Some Eval
    else if bytes_eq word (codes "check") then Some Check
    else if bytes_eq word (codes "show") then Some Show
    else if bytes_eq word (codes "search") then Some Search
    else if bytes_eq word (codes "run") then Some Run
    else if bytes_eq word (codes "replay") then Some Replay
    else if bytes_eq word (codes "demo") then Some Demo
    else None

-- the options' values, each as it was written, where it was
pub record Values : Type 0 where
  pub at : Option Text
  pub builders : Option Text
  pub arrays : Option Text
  pub number : Option Text

abbrev pub values_in : List Row → Values
values_in rows = record {
  at = first_of (codes "at") rows;
  builders = first_of (codes "builders") rows;
  arrays = first_of (codes "arrays") rows;
  number = first_of (codes "number") rows;
}

abbrev pub written : Options → Values
written o = record {
  at = option_map (λ s. s.now) o.at;
  builders = option_map (λ s. s.now) o.builders;
  arrays = option_map (λ s. s.now) o.arrays;
  number = option_map (λ s. s.now) o.number;
}

-- the options that a command doesn't use
abbrev pub unused_by : CommandName → Values → List (Option Text)
unused_by Eval v = v.at ∷ v.builders ∷ v.number ∷ []
unused_by Check v = v.builders ∷ v.arrays ∷ v.number ∷ []
unused_by Show v = v.builders ∷ v.arrays ∷ v.number ∷ []
unused_by Search v = v.at ∷ v.builders ∷ v.arrays ∷ v.number ∷ []
unused_by Run v = v.at ∷ v.number ∷ []
unused_by Replay v = v.at ∷ v.builders ∷ v.arrays ∷ v.number ∷ []
unused_by Demo v = v.at ∷ v.builders ∷ v.arrays ∷ []

-- what the value says, and this where the option isn't there
abbrev pub or_default : {A : Type 0} → A → (Text → Option A) → Option Text → Option A
or_default default read None = Some default
or_default default read (Some text) = read text

-- `--at`: the values of a point, or none, which stands for the centre
abbrev pub place_of : Option Text → Option (Option (List ℤ))
place_of = or_default None (λ text. option_map (λ values. Some values) (wholes_of text))

-- `--builders`: 0 to `most_builders`
abbrev pub builders_of : Option Text → Option ℕ
builders_of = or_default 1 (natural_of most_builders)

-- `--arrays`: whether only sums are printed
abbrev pub sums_named : Text → Option Bool
sums_named word =
    if bytes_eq word (codes "all") then Some false
    else if bytes_eq word (codes "sum") then Some true
    else None

abbrev pub sums_of : Option Text → Option Bool
sums_of = or_default false sums_named

-- `--number`: 0 to `largest_number`, and it must be there
abbrev pub deck_number_of : Option Text → Option ℕ
deck_number_of = option_and_then (natural_of largest_number)

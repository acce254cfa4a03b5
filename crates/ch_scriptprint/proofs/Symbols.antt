-- The symbols of a recipe's text.
use Rattle.std.proofs.Common.{ℕ, suc, ℤ, pos, negsuc, Bool, true, false, nat_eq, List, [], ◌∷◌, ◌++◌}
use Rattle.std.specs.List.{flat_map}
use Rattle.ch_lex.specs.declared.keyword.Keyword.TheVariants as words
use Rattle.ch_lex.specs.declared.token.Sign.{Sign}
use Rattle.ch_lex.specs.declared.token.Sign.TheVariants as signs
use Rattle.ch_nestprint.specs.declared.symbol.Symbol.{Symbol}
use Rattle.ch_nestprint.specs.declared.symbol.Symbol.TheVariants.{Name, Number, Key, Mark}
use Rattle.ch_script.specs.Recipes.{RecipeParts}
use Rattle.ch_script.specs.Words.{require_text, word_text}
use Rattle.ch_script.specs.declared.recipe.Arg.{Arg}
use Rattle.ch_script.specs.declared.recipe.Arg.TheVariants as arg
use Rattle.ch_script.specs.declared.recipe.Command.{Command}
use Rattle.ch_script.specs.declared.recipe.Command.TheVariants.{Permute, Skew, Shift, Tile, Unroll, Split, Peel, Fuse, Distribute, Datacopy, Accumulate}
use Rattle.ch_script.specs.declared.recipe.Cond.{Cond}
use Rattle.ch_script.specs.declared.recipe.Of.{Of}
use Rattle.ch_script.specs.declared.recipe.Of.TheVariants.{One, Level, Param}
use Rattle.ch_script.specs.declared.recipe.Relation.{Relation}
use Rattle.ch_script.specs.declared.recipe.Relation.TheVariants as relations
use Rattle.ch_script.specs.declared.recipe.Term.{Term}
use Rattle.ch_scriptprint.specs.Printed.{level_text, param_name, word_of_command}
use Rattle.ch_scriptprint.proofs.Lays.{listed}

abbrev pub number_symbols : ℤ → List Symbol
number_symbols (pos n) = Number n ∷ []
number_symbols (negsuc n) = Mark signs.Minus ∷ Number (suc n) ∷ []

-- two parts, and three, with a comma between them
abbrev pub two_symbols : List Symbol → List Symbol → List Symbol
two_symbols a b = (a ++ Mark signs.Comma ∷ []) ++ b

abbrev pub three_symbols : List Symbol → List Symbol → List Symbol → List Symbol
three_symbols a b c = two_symbols (two_symbols a b) c

abbrev pub relation_sign : Relation → Sign
relation_sign relations.Less = signs.Less
relation_sign relations.AtMost = signs.AtMost
relation_sign relations.More = signs.More
relation_sign relations.AtLeast = signs.AtLeast

abbrev pub next_mark : Bool → Symbol
next_mark true = Mark signs.Minus
next_mark false = Mark signs.Plus

abbrev pub lead_symbols : Bool → List Symbol
lead_symbols true = Mark signs.Minus ∷ []
lead_symbols false = []

abbrev pub factor_symbols : Bool → ℕ → List Symbol
factor_symbols true factor = []
factor_symbols false factor = Number factor ∷ Mark signs.Star ∷ []

-- a word, and what stands behind it in parentheses
abbrev pub line_symbols : List ℕ → List Symbol → List Symbol
line_symbols word inside = Name word ∷ Mark signs.LeftParen ∷ (inside ++ Mark signs.RightParen ∷ Mark signs.Semicolon ∷ [])

abbrev pub name_symbols : List ℕ → List Symbol
name_symbols name = Name name ∷ []

abbrev pub head_symbols : List ℕ → List (List ℕ) → List Symbol
head_symbols name params =
    Key words.Recipe ∷ Name name ∷ Mark signs.LeftParen ∷ (listed name_symbols params ++ Mark signs.RightParen ∷ Mark signs.LeftBrace ∷ [])

module _ (params : List (List ℕ)) where
  abbrev pub arg_symbols : Arg → List Symbol
  arg_symbols (arg.Number n) = number_symbols n
  arg_symbols (arg.Param k) = Name (param_name params k) ∷ []

  abbrev pub args_symbols : List Arg → List Symbol
  args_symbols args = (Mark signs.LeftBracket ∷ listed arg_symbols args) ++ Mark signs.RightBracket ∷ []

  abbrev pub times_symbols : ℕ → List ℕ → List Symbol
  times_symbols factor name = factor_symbols (nat_eq factor 1) factor ++ Name name ∷ []

  abbrev pub part_symbols : ℕ → Of → List Symbol
  part_symbols factor One = Number factor ∷ []
  part_symbols factor (Level l) = times_symbols factor (level_text l)
  part_symbols factor (Param k) = times_symbols factor (param_name params k)

  abbrev pub first_symbols : Term → List Symbol
  first_symbols t = lead_symbols t.negative ++ part_symbols t.factor t.of

  abbrev pub next_symbols : Term → List Symbol
  next_symbols t = next_mark t.negative ∷ part_symbols t.factor t.of

  abbrev pub sum_symbols : List Term → List Symbol
  sum_symbols [] = []
  sum_symbols (t ∷ ts) = first_symbols t ++ flat_map next_symbols ts

  abbrev pub condition_symbols : Cond → List Symbol
  condition_symbols c = (sum_symbols c.left ++ Mark (relation_sign c.relation) ∷ []) ++ sum_symbols c.right

  abbrev pub arguments_symbols : Command → List Symbol
  arguments_symbols (Permute s order) = two_symbols (arg_symbols s) (args_symbols order)
  arguments_symbols (Skew ss level amounts) = three_symbols (args_symbols ss) (arg_symbols level) (args_symbols amounts)
  arguments_symbols (Shift ss level amount) = three_symbols (args_symbols ss) (arg_symbols level) (arg_symbols amount)
  arguments_symbols (Tile s level size outer) = two_symbols (three_symbols (arg_symbols s) (arg_symbols level) (arg_symbols size)) (arg_symbols outer)
  arguments_symbols (Unroll s level amount) = three_symbols (arg_symbols s) (arg_symbols level) (arg_symbols amount)
  arguments_symbols (Split s level c) = three_symbols (arg_symbols s) (arg_symbols level) (condition_symbols c)
  arguments_symbols (Peel s level count) = three_symbols (arg_symbols s) (arg_symbols level) (arg_symbols count)
  arguments_symbols (Fuse ss level) = two_symbols (args_symbols ss) (arg_symbols level)
  arguments_symbols (Distribute ss level) = two_symbols (args_symbols ss) (arg_symbols level)
  arguments_symbols (Datacopy s level array) = three_symbols (arg_symbols s) (arg_symbols level) (name_symbols array)
  arguments_symbols Accumulate = []

  abbrev pub require_symbols : Cond → List Symbol
  require_symbols c = line_symbols require_text (condition_symbols c)

  abbrev pub command_symbols : Command → List Symbol
  command_symbols c = line_symbols (word_text (word_of_command c)) (arguments_symbols c)

abbrev pub recipe_symbols : RecipeParts → List Symbol
recipe_symbols r =
    ((head_symbols r.name r.params ++ flat_map (require_symbols r.params) r.conditions) ++ flat_map (command_symbols r.params) r.commands) ++ Mark signs.RightBrace ∷ []

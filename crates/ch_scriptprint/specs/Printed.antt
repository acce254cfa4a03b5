-- The text of a recipe: a line for its head, one for each condition and each command, and one for its
-- closing brace.
use Rattle.std.specs.Prelude.{ℕ, Bool, true, false, nat_eq, List, [], ◌∷◌, ◌++◌, codes, slice_index_or}
use Rattle.std.specs.List.{flat_map}
use Rattle.ch_print.specs.Lists.{separated}
use Rattle.ch_print.specs.Numbers.{integer_text, number_text}
use Rattle.ch_script.specs.Recipes.{RecipeParts}
use Rattle.ch_script.specs.Words.{require_text, word_text}
use Rattle.ch_script.specs.declared.recipe.Arg.{Arg}
use Rattle.ch_script.specs.declared.recipe.Arg.TheVariants as arg
use Rattle.ch_script.specs.declared.recipe.Command.{Command}
use Rattle.ch_script.specs.declared.recipe.Command.TheVariants.{Permute, Skew, Shift, Tile, Unroll, Split, Peel, Fuse, Distribute, Datacopy, Accumulate}
use Rattle.ch_script.specs.declared.recipe.Cond.{Cond}
use Rattle.ch_script.specs.declared.recipe.Of.{Of}
use Rattle.ch_script.specs.declared.recipe.Of.TheVariants.{One, Level, Param}
use Rattle.ch_script.specs.declared.recipe.Relation.{Relation}
use Rattle.ch_script.specs.declared.recipe.Relation.TheVariants.{Less, AtMost, More, AtLeast}
use Rattle.ch_script.specs.declared.recipe.Term.{Term}
use Rattle.ch_script.specs.declared.word.Word.{Word}
use Rattle.ch_script.specs.declared.word.Word.TheVariants as words

-- arguments

-- the name of a parameter, counted from 0
abbrev pub param_name : List (List ℕ) → ℕ → List ℕ
param_name params k = slice_index_or params k []

abbrev pub arg_text : List (List ℕ) → Arg → List ℕ
arg_text params (arg.Number n) = integer_text n
arg_text params (arg.Param k) = param_name params k

-- as `[0, T]`
abbrev pub args_text : List (List ℕ) → List Arg → List ℕ
args_text params args = codes "[" ++ separated (codes ", ") (arg_text params) args ++ codes "]"

-- conditions

-- a factor in front of a name, which is left out where it is 1
abbrev pub factor_if : Bool → ℕ → List ℕ
factor_if true factor = []
factor_if false factor = number_text factor ++ codes "*"

abbrev pub factor_text : ℕ → List ℕ
factor_text factor = factor_if (nat_eq factor 1) factor

abbrev pub level_text : ℕ → List ℕ
level_text l = codes "L" ++ number_text l

-- a term without its sign
abbrev pub part_text : List (List ℕ) → ℕ → Of → List ℕ
part_text params factor One = number_text factor
part_text params factor (Level l) = factor_text factor ++ level_text l
part_text params factor (Param k) = factor_text factor ++ param_name params k

abbrev pub first_sign : Bool → List ℕ
first_sign true = codes "-"
first_sign false = []

abbrev pub next_sign : Bool → List ℕ
next_sign true = codes " - "
next_sign false = codes " + "

abbrev pub first_text : List (List ℕ) → Term → List ℕ
first_text params t = first_sign t.negative ++ part_text params t.factor t.of

abbrev pub next_text : List (List ℕ) → Term → List ℕ
next_text params t = next_sign t.negative ++ part_text params t.factor t.of

-- as `-L1 + 2*L2 - 3`
abbrev pub sum_text : List (List ℕ) → List Term → List ℕ
sum_text params [] = []
sum_text params (t ∷ ts) = first_text params t ++ flat_map (next_text params) ts

abbrev pub relation_text : Relation → List ℕ
relation_text Less = codes " < "
relation_text AtMost = codes " <= "
relation_text More = codes " > "
relation_text AtLeast = codes " >= "

abbrev pub condition_text : List (List ℕ) → Cond → List ℕ
condition_text params c = sum_text params c.left ++ relation_text c.relation ++ sum_text params c.right

-- lines

-- a word, and what belongs to it in parentheses
abbrev pub line_text : List ℕ → List ℕ → List ℕ
line_text word inside = codes "    " ++ word ++ codes "(" ++ inside ++ codes ");\n"

abbrev pub require_line : List (List ℕ) → Cond → List ℕ
require_line params c = line_text require_text (condition_text params c)

abbrev pub word_of_command : Command → Word
word_of_command (Permute s order) = words.Permute
word_of_command (Skew ss level amounts) = words.Skew
word_of_command (Shift ss level amount) = words.Shift
word_of_command (Tile s level size outer) = words.Tile
word_of_command (Unroll s level amount) = words.Unroll
word_of_command (Split s level c) = words.Split
word_of_command (Peel s level count) = words.Peel
word_of_command (Fuse ss level) = words.Fuse
word_of_command (Distribute ss level) = words.Distribute
word_of_command (Datacopy s level array) = words.Datacopy
word_of_command Accumulate = words.Accumulate

-- two parts with `, ` between them
abbrev pub two : List ℕ → List ℕ → List ℕ
two a b = a ++ codes ", " ++ b

abbrev pub pair_text : List (List ℕ) → Arg → Arg → List ℕ
pair_text params a b = two (arg_text params a) (arg_text params b)

abbrev pub triple_text : List (List ℕ) → Arg → Arg → Arg → List ℕ
triple_text params a b c = two (pair_text params a b) (arg_text params c)

-- statements and a level
abbrev pub group_text : List (List ℕ) → List Arg → Arg → List ℕ
group_text params ss level = two (args_text params ss) (arg_text params level)

abbrev pub arguments_text : List (List ℕ) → Command → List ℕ
arguments_text params (Permute s order) = two (arg_text params s) (args_text params order)
arguments_text params (Skew ss level amounts) = two (group_text params ss level) (args_text params amounts)
arguments_text params (Shift ss level amount) = two (group_text params ss level) (arg_text params amount)
arguments_text params (Tile s level size outer) = two (triple_text params s level size) (arg_text params outer)
arguments_text params (Unroll s level amount) = triple_text params s level amount
arguments_text params (Split s level c) = two (pair_text params s level) (condition_text params c)
arguments_text params (Peel s level count) = triple_text params s level count
arguments_text params (Fuse ss level) = group_text params ss level
arguments_text params (Distribute ss level) = group_text params ss level
arguments_text params (Datacopy s level array) = two (pair_text params s level) array
arguments_text params Accumulate = []

abbrev pub command_line : List (List ℕ) → Command → List ℕ
command_line params c = line_text (word_text (word_of_command c)) (arguments_text params c)

abbrev pub head_line : List ℕ → List (List ℕ) → List ℕ
head_line name params = codes "recipe " ++ name ++ codes "(" ++ separated (codes ", ") (λ p. p) params ++ codes ") {\n"

abbrev pub recipe_text : RecipeParts → List ℕ
recipe_text r =
    head_line r.name r.params ++ flat_map (require_line r.params) r.conditions
    ++ flat_map (command_line r.params) r.commands ++ codes "}\n"

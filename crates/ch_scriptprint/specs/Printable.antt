-- Which recipes can be written in the language: what is known of every recipe that was read, besides
-- what its type keeps.
use Rattle.std.specs.Prelude.{ℕ, Bool, true, false, ◌&&◌, nat_le, unsigned_abs, List, [], ◌∷◌, ◌++◌}
use Rattle.std.specs.List.{list_all}
use Rattle.ch_nest.specs.Limits.{most_number}
use Rattle.ch_nestparse.specs.Spelling.{is_name}
use Rattle.ch_script.specs.Names.{is_free}
use Rattle.ch_script.specs.Recipes.{RecipeParts}
use Rattle.ch_script.specs.declared.recipe.Arg.{Arg}
use Rattle.ch_script.specs.declared.recipe.Arg.TheVariants as arg
use Rattle.ch_script.specs.declared.recipe.Command.{Command}
use Rattle.ch_script.specs.declared.recipe.Command.TheVariants.{Permute, Skew, Shift, Tile, Unroll, Split, Peel, Fuse, Distribute, Datacopy, Accumulate}
use Rattle.ch_script.specs.declared.recipe.Cond.{Cond}
use Rattle.ch_script.specs.declared.recipe.Term.{Term}

-- names of the language, of which none is that of a level or of one before it
abbrev pub are_params : List (List ℕ) → List (List ℕ) → Bool
are_params before [] = true
are_params before (n ∷ ns) = is_name n && (is_free n before && are_params (before ++ n ∷ []) ns)

-- a parameter, or a number of the language or the negative of one
abbrev pub arg_written : Arg → Bool
arg_written (arg.Number n) = nat_le (unsigned_abs n) most_number
arg_written (arg.Param k) = true

abbrev pub is_list : {A : Type 0} → List A → Bool
is_list [] = false
is_list (x ∷ xs) = true

-- no list is empty
abbrev pub args_written : List Arg → Bool
args_written args = is_list args && list_all arg_written args

abbrev pub term_written : Term → Bool
term_written t = nat_le t.factor most_number

-- nor a sum
abbrev pub sum_written : List Term → Bool
sum_written terms = is_list terms && list_all term_written terms

abbrev pub condition_written : Cond → Bool
condition_written c = sum_written c.left && sum_written c.right

abbrev pub command_written : Command → Bool
command_written (Permute s order) = arg_written s && args_written order
command_written (Skew ss level amounts) = args_written ss && (arg_written level && args_written amounts)
command_written (Shift ss level amount) = args_written ss && (arg_written level && arg_written amount)
command_written (Tile s level size outer) = arg_written s && (arg_written level && (arg_written size && arg_written outer))
command_written (Unroll s level amount) = arg_written s && (arg_written level && arg_written amount)
command_written (Split s level c) = arg_written s && (arg_written level && condition_written c)
command_written (Peel s level count) = arg_written s && (arg_written level && arg_written count)
command_written (Fuse ss level) = args_written ss && arg_written level
command_written (Distribute ss level) = args_written ss && arg_written level
command_written (Datacopy s level array) = arg_written s && (arg_written level && is_name array)
command_written Accumulate = true

-- Its name, those of its parameters and of arrays are names of the language, no two parameters have one name or that of a
-- level, its numbers are numbers of the language, and no list or sum is empty.
abbrev pub is_printable : RecipeParts → Bool
is_printable r =
    is_name r.name
    && (are_params [] r.params
    && (list_all condition_written r.conditions && list_all command_written r.commands))

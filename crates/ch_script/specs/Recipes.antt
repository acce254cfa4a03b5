-- What contracts see of a recipe, and what its type keeps.
use Rattle.std.specs.Prelude.{ℕ, ◌+◌, Bool, true, false, ◌&&◌, nat_eq, nat_le, nat_lt, List, length}
use Rattle.std.specs.List.{list_all}
use Rattle.ch_script.specs.Limits.{deepest_level, most_commands, most_conditions, most_params, most_terms}
use Rattle.ch_script.specs.declared.recipe.Arg.{Arg}
use Rattle.ch_script.specs.declared.recipe.Arg.TheVariants as arg
use Rattle.ch_script.specs.declared.recipe.Of.{Of}
use Rattle.ch_script.specs.declared.recipe.Of.TheVariants as of
use Rattle.ch_script.specs.declared.recipe.Term.{Term}
use Rattle.ch_script.specs.declared.recipe.Cond.{Cond}
use Rattle.ch_script.specs.declared.recipe.Purpose.{Purpose}
use Rattle.ch_script.specs.declared.recipe.Purpose.TheVariants as purposes
use Rattle.ch_script.specs.declared.recipe.Command.{Command}
use Rattle.ch_script.specs.declared.recipe.Command.TheVariants.{Permute, Skew, Shift, Tile, Unroll, Split, Peel, Fuse, Distribute, Datacopy, Accumulate}

pub record RecipeParts : Type 0 where
  pub name : List ℕ
  pub params : List (List ℕ)
  pub conditions : List Cond
  pub commands : List Command

abbrev pub recipe_of : List ℕ → List (List ℕ) → List Cond → List Command → RecipeParts
recipe_of name params conditions commands =
    record { name = name; params = params; conditions = conditions; commands = commands }

-- a number, or one of so many parameters
abbrev pub arg_fits : ℕ → Arg → Bool
arg_fits params (arg.Number n) = true
arg_fits params (arg.Param k) = nat_lt k params

abbrev pub args_fit : ℕ → List Arg → Bool
args_fit params = list_all (arg_fits params)

-- a condition between parameters names no level
abbrev pub required_fits : ℕ → Of → Bool
required_fits params of.One = true
required_fits params (of.Level l) = false
required_fits params (of.Param k) = nat_lt k params

-- in that of a split a parameter has no factor
abbrev pub split_fits : ℕ → ℕ → Of → Bool
split_fits params factor of.One = true
split_fits params factor (of.Level l) = nat_le 1 l && nat_le l deepest_level
split_fits params factor (of.Param k) = nat_lt k params && nat_eq factor 1

abbrev pub term_fits : Purpose → ℕ → Term → Bool
term_fits purposes.Require params t = required_fits params t.of
term_fits purposes.Split params t = split_fits params t.factor t.of

abbrev pub has_few_terms : Cond → Bool
has_few_terms c = nat_le (length c.left + length c.right) most_terms

abbrev pub condition_fits : Purpose → ℕ → Cond → Bool
condition_fits purpose params c =
    has_few_terms c && (list_all (term_fits purpose params) c.left && list_all (term_fits purpose params) c.right)

abbrev pub command_fits : ℕ → Command → Bool
command_fits params (Permute s order) = arg_fits params s && args_fit params order
command_fits params (Skew ss level amounts) = args_fit params ss && (arg_fits params level && args_fit params amounts)
command_fits params (Shift ss level amount) = args_fit params ss && (arg_fits params level && arg_fits params amount)
command_fits params (Tile s level size outer) =
    arg_fits params s && (arg_fits params level && (arg_fits params size && arg_fits params outer))
command_fits params (Unroll s level amount) = arg_fits params s && (arg_fits params level && arg_fits params amount)
command_fits params (Split s level c) = arg_fits params s && (arg_fits params level && condition_fits purposes.Split params c)
command_fits params (Peel s level count) = arg_fits params s && (arg_fits params level && arg_fits params count)
command_fits params (Fuse ss level) = args_fit params ss && arg_fits params level
command_fits params (Distribute ss level) = args_fit params ss && arg_fits params level
command_fits params (Datacopy s level array) = arg_fits params s && arg_fits params level
command_fits params Accumulate = true

-- what the type of a recipe keeps
abbrev pub is_recipe : RecipeParts → Bool
is_recipe r =
    nat_le (length r.params) most_params
    && (nat_le (length r.conditions) most_conditions
    && (nat_le (length r.commands) most_commands
    && (list_all (condition_fits purposes.Require (length r.params)) r.conditions
    && list_all (command_fits (length r.params)) r.commands)))

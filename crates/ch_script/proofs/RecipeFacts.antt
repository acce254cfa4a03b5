-- What the type of a recipe tells of its parts.
use Rattle.std.proofs.Common.{arith, ℕ, ◌≤◌, Bool, ◌&&◌, length}
use Rattle.std.specs.Prelude.{nat_le}
use Rattle.std.specs.Bool.{IsTrue}
use Rattle.std.specs.List.{list_all}
use Rattle.std.proofs.lemmas.Bool.{and_parts}
use Rattle.std.proofs.lemmas.Bool.Decides.{nat_tests}
use Rattle.ch_script.specs.Limits.{most_commands, most_conditions, most_params}
use Rattle.ch_script.specs.Recipes.{RecipeParts, command_fits, condition_fits, is_recipe}
use Rattle.ch_script.specs.declared.recipe.Purpose.TheVariants.{Require}

at_most : (n m : ℕ) → IsTrue (nat_le n m) → n ≤ m
at_most n m h = grind (arith, nat_tests)

-- the parts of what a recipe's type keeps, from each on
abbrev all_fit : RecipeParts → Bool
all_fit r = list_all (condition_fits Require (length r.params)) r.conditions && list_all (command_fits (length r.params)) r.commands

abbrev few_and_fit : RecipeParts → Bool
few_and_fit r = nat_le (length r.commands) most_commands && all_fit r

abbrev behind_params : RecipeParts → Bool
behind_params r = nat_le (length r.conditions) most_conditions && few_and_fit r

of_params : (r : RecipeParts) → IsTrue (is_recipe r) → IsTrue (nat_le (length r.params) most_params) × IsTrue (behind_params r)
of_params r h = and_parts (nat_le (length r.params) most_params) (behind_params r) h

of_commands : (r : RecipeParts) → IsTrue (is_recipe r) → IsTrue (nat_le (length r.commands) most_commands) × IsTrue (all_fit r)
of_commands r h =
    and_parts (nat_le (length r.commands) most_commands) (all_fit r)
    (and_parts (nat_le (length r.conditions) most_conditions) (few_and_fit r) (of_params r h).1).1

pub few_commands : (r : RecipeParts) → IsTrue (is_recipe r) → length r.commands ≤ 32
few_commands r h = at_most (length r.commands) 32 (of_commands r h).0

pub commands_fit : (r : RecipeParts) → IsTrue (is_recipe r) → IsTrue (list_all (command_fits (length r.params)) r.commands)
commands_fit r h =
    (and_parts (list_all (condition_fits Require (length r.params)) r.conditions) (list_all (command_fits (length r.params)) r.commands) (of_commands r h).1).1

pub conditions_fit : (r : RecipeParts) → IsTrue (is_recipe r) → IsTrue (list_all (condition_fits Require (length r.params)) r.conditions)
conditions_fit r h =
    (and_parts (list_all (condition_fits Require (length r.params)) r.conditions) (list_all (command_fits (length r.params)) r.commands) (of_commands r h).1).0

pub few_params : (r : RecipeParts) → IsTrue (is_recipe r) → length r.params ≤ 6
few_params r h = at_most (length r.params) 6 (of_params r h).0

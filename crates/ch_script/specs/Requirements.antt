-- A condition between parameters as an affine form of their values.
use Rattle.std.specs.Prelude.{ℕ, ℤ, pos, ◌-ℤ◌, Bool, nat_eq, if◌then◌else◌, List, length, map}
use Rattle.std.specs.List.{range_with_len}
use Rattle.ch_affine.specs.Affine.{form}
use Rattle.ch_affine.specs.Form.{Form}
use Rattle.ch_script.specs.Recipes.{RecipeParts}
use Rattle.ch_script.specs.Values.{signed, total}
use Rattle.ch_script.specs.declared.recipe.Cond.{Cond}
use Rattle.ch_script.specs.declared.recipe.Of.{Of}
use Rattle.ch_script.specs.declared.recipe.Of.TheVariants.{One, Level, Param}
use Rattle.ch_script.specs.declared.recipe.Relation.{Relation}
use Rattle.ch_script.specs.declared.recipe.Relation.TheVariants.{Less, AtMost, More, AtLeast}
use Rattle.ch_script.specs.declared.recipe.Term.{Term}

-- what a term adds to the coefficient of parameter k
abbrev pub on_param : ℕ → Bool → ℕ → Of → ℤ
on_param k negative factor One = pos 0
on_param k negative factor (Level l) = pos 0
on_param k negative factor (Param j) = if nat_eq j k then signed negative (pos factor) else pos 0

abbrev pub weight_of : ℕ → Term → ℤ
weight_of k t = on_param k t.negative t.factor t.of

-- and to the constant
abbrev pub on_one : Bool → ℕ → Of → ℤ
on_one negative factor One = signed negative (pos factor)
on_one negative factor (Level l) = pos 0
on_one negative factor (Param j) = pos 0

abbrev pub number_of : Term → ℤ
number_of t = on_one t.negative t.factor t.of

-- the coefficient of a parameter in the difference of two sums
abbrev pub weight_between : List Term → List Term → ℕ → ℤ
weight_between more less k = total (weight_of k) more -ℤ total (weight_of k) less

-- the constant of the difference, less a number
abbrev pub number_between : List Term → List Term → ℤ → ℤ
number_between more less by = total number_of more -ℤ total number_of less -ℤ by

-- how far the one sum is above the other, less a number
abbrev pub excess : ℕ → List Term → List Term → ℤ → Form
excess params more less by =
    form (map (weight_between more less) (range_with_len 0 params)) (number_between more less by)

abbrev pub required : ℕ → Relation → List Term → List Term → Form
required params Less left right = excess params right left (pos 1)
required params AtMost left right = excess params right left (pos 0)
required params More left right = excess params left right (pos 1)
required params AtLeast left right = excess params left right (pos 0)

-- The form that is at least 0 exactly where the comparison holds, with a coefficient for each of so many parameters:
-- left <= right is right - left, and left < right is right - left - 1.
abbrev pub requirement : ℕ → Cond → Form
requirement params c = required params c.relation c.left c.right

-- the conditions between so many parameters as forms of their values
abbrev pub all_requirements : ℕ → List Cond → List Form
all_requirements params conditions = map (requirement params) conditions

-- those of a recipe: each condition holds exactly where its form is at least 0
abbrev pub requirements : RecipeParts → List Form
requirements recipe = all_requirements (length recipe.params) recipe.conditions

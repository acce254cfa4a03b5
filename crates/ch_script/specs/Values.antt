-- A condition as an affine form of the loop values, once each parameter has a value.
use Rattle.std.specs.Prelude.{ℕ, zero, suc, ◌+◌, max, ℤ, pos, ◌+ℤ◌, ◌-ℤ◌, neg_ℤ, Bool, nat_eq, if◌then◌else◌, List, [], ◌∷◌, map, slice_index_or}
use Rattle.ch_affine.specs.Affine.{form}
use Rattle.ch_affine.specs.Form.{Form}
use Rattle.ch_script.specs.declared.recipe.Cond.{Cond}
use Rattle.ch_script.specs.declared.recipe.Of.{Of}
use Rattle.ch_script.specs.declared.recipe.Of.TheVariants.{One, Level, Param}
use Rattle.ch_script.specs.declared.recipe.Relation.{Relation}
use Rattle.ch_script.specs.declared.recipe.Relation.TheVariants.{Less, AtMost, More, AtLeast}
use Rattle.ch_script.specs.declared.recipe.Term.{Term}

abbrev pub signed : Bool → ℤ → ℤ
signed negative z = if negative then neg_ℤ z else z

-- what a term adds to the coefficient of a level
abbrev pub on_level : ℕ → Bool → ℕ → Of → ℤ
on_level l negative factor One = pos 0
on_level l negative factor (Level k) = if nat_eq k l then signed negative (pos factor) else pos 0
on_level l negative factor (Param k) = pos 0

abbrev pub coef_of : ℕ → Term → ℤ
coef_of l t = on_level l t.negative t.factor t.of

-- and to the constant; a parameter has no factor
abbrev pub on_none : List ℤ → Bool → ℕ → Of → ℤ
on_none values negative factor One = signed negative (pos factor)
on_none values negative factor (Level k) = pos 0
on_none values negative factor (Param k) = signed negative (slice_index_or values k (pos 0))

abbrev pub constant_of : List ℤ → Term → ℤ
constant_of values t = on_none values t.negative t.factor t.of

abbrev pub total : (Term → ℤ) → List Term → ℤ
total f [] = pos 0
total f (t ∷ ts) = f t +ℤ total f ts

abbrev pub level_in : Of → ℕ
level_in One = 0
level_in (Level l) = l
level_in (Param k) = 0

-- the greatest level that is named
abbrev pub greatest_level : List Term → ℕ
greatest_level [] = 0
greatest_level (t ∷ ts) = max (level_in t.of) (greatest_level ts)

-- so many levels from one on
abbrev pub levels_from : ℕ → ℕ → List ℕ
levels_from zero l = []
levels_from (suc n) l = l ∷ levels_from n (l + 1)

-- the coefficient of a level in the difference of two sums
abbrev pub coef_between : List Term → List Term → ℕ → ℤ
coef_between more less l = total (coef_of l) more -ℤ total (coef_of l) less

-- the constant of the difference, less a number
abbrev pub constant_between : List ℤ → List Term → List Term → ℤ → ℤ
constant_between values more less by = total (constant_of values) more -ℤ total (constant_of values) less -ℤ by

abbrev pub levels_in : List Term → List Term → ℕ
levels_in more less = max (greatest_level more) (greatest_level less)

-- how far the one sum is above the other, less a number
abbrev pub above : List ℤ → List Term → List Term → ℤ → Form
above values more less by =
    form (map (coef_between more less) (levels_from (levels_in more less) 1)) (constant_between values more less by)

abbrev pub compared : List ℤ → Relation → List Term → List Term → Form
compared values Less left right = above values right left (pos 1)
compared values AtMost left right = above values right left (pos 0)
compared values More left right = above values left right (pos 1)
compared values AtLeast left right = above values left right (pos 0)

-- The form that is at least 0 exactly where the comparison holds: left <= right is right - left, and left < right is
-- right - left - 1. It has a coefficient for each level up to the greatest that is named.
abbrev pub condition : List ℤ → Cond → Form
condition values c = compared values c.relation c.left c.right

-- The point of a grid at which a recipe is built, and the values of its parameters there.
use Rattle.std.specs.Prelude.{ℕ, ℤ, List, unwrap_or}
use Rattle.ch_constrain.specs.Nearest.{nearest, values}
use Rattle.ch_grid.specs.declared.param.Param.{Param}
use Rattle.ch_script.specs.Recipes.{RecipeParts}
use Rattle.ch_script.specs.Requirements.{requirements}

-- The nearest point that meets the conditions. Where no point of the grid does, it is the point itself.
abbrev pub used_point : RecipeParts → List Param → List ℕ → List ℕ
used_point recipe grid point = unwrap_or (nearest grid (requirements recipe) point) point

-- the values of the parameters there
abbrev pub used_values : RecipeParts → List Param → List ℕ → List ℤ
used_values recipe grid point = values grid (used_point recipe grid point)

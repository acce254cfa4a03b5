-- What a value was made from.
use Rattle.std.specs.Prelude.{ℕ, List, Option}
use Rattle.ch_grid.specs.declared.param.Param.{Param}
use Rattle.ch_nest.specs.LoopNest.{LoopNest}
use Rattle.ch_rank.specs.Moves.{Point}
use Rattle.ch_script.specs.Recipes.{RecipeParts}

-- a recipe at a point of a grid
pub record Origin : Type 0 where
  pub recipe : RecipeParts
  pub grid : List Param
  pub point : Point

-- None: the nest itself
pub record Making : Type 0 where
  pub subject : ℕ
  pub nest : LoopNest
  pub origin : Option Origin

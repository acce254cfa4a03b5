-- Whether some point of a grid is admissible: whether the conditions between its parameters hold at the point's values.
use Rattle.std.specs.Prelude.{ℕ, Bool, List, length, replicate}
use Rattle.std.specs.Option.{is_some}
use Rattle.ch_constrain.specs.Nearest.{nearest}
use Rattle.ch_grid.specs.declared.param.Param.{Param}
use Rattle.ch_script.specs.Requirements.{all_requirements}
use Rattle.ch_script.specs.declared.recipe.Cond.{Cond}

-- the point with the low end of each range
abbrev pub first_point : List Param → List ℕ
first_point params = replicate (length params) 0

-- there is an admissible point that is nearest to the first one
unfoldable pub has_admissible : List Cond → List Param → Bool
has_admissible conditions params =
    is_some (nearest params (all_requirements (length params) conditions) (first_point params))

-- The text of a point of a grid: the values of the parameters, as `(3,4)`.
use Rattle.std.specs.Prelude.{ℕ, ℤ, List, ◌++◌, codes}
use Rattle.ch_constrain.specs.Nearest.{values}
use Rattle.ch_grid.specs.declared.param.Param.{Param}
use Rattle.ch_print.specs.Lists.{separated}
use Rattle.ch_print.specs.Numbers.{integer_text}

unfoldable pub values_text : List ℤ → List ℕ
values_text numbers = codes "(" ++ separated (codes ",") integer_text numbers ++ codes ")"

abbrev pub point_text : List Param → List ℕ → List ℕ
point_text params point = values_text (values params point)

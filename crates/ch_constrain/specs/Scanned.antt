-- What is known of the points that were looked at.
use Rattle.std.specs.Prelude.{◌≡◌, ◌<◌, ℕ, Bool, true, nat_lt, Option, Some, None, List}
use Rattle.ch_constrain.specs.declared.search.Found.{Found}
use Rattle.ch_constrain.specs.Nearest.{distance, point_at}
use Rattle.ch_grid.specs.declared.param.Param.{Param}
use Rattle.ch_grid.specs.Grid.{sizes}
use Rattle.ch_grid.specs.Points.{count}

-- nearer than the one there is, or the first
abbrev pub is_before : Found → Option Found → Bool
is_before f None = true
is_before f (Some best) = nat_lt f.distance best.distance

-- it is the number of that point of the grid, and its distance from the point that is asked about
pub record IsFound (params : List Param) (point : List ℕ) (f : Found) (p : List ℕ) : Type 0 where
  pub below : f.number < count (sizes params)
  pub is : point_at (sizes params) f.number ≡ p
  pub far : f.distance ≡ distance point p

-- the same of what there may be
abbrev pub Finds : List Param → List ℕ → Option Found → Option (List ℕ) → Type 0
Finds params point None None = Unit {0}
Finds params point (Some f) (Some p) = IsFound params point f p
Finds params point _ _ = ⊥

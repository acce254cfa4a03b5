-- A grid has an admissible point where one of its points meets all conditions.
use Rattle.std.proofs.Common.{◌≡◌, refl, sym, ap₂, ◌∙◌, ℕ, ◌+◌, ◌<◌, true, false, nat_lt, Option, Some, None, MatchOption, List, [], ◌∷◌, ◌++◌, length, drop, get_or, append_assoc, add-one, drop-cons, lt-ltb, arith}
use Rattle.std.specs.Bool.{IsTrue}
use Rattle.std.specs.Option.{is_some}
use Rattle.std.proofs.lemmas.Bool.{and_from, both_ways}
use Rattle.ch_affine.specs.Form.{Form}
use Rattle.ch_constrain.specs.Nearest.{IsNearest, is_admissible, nearest}
use Rattle.ch_constrain.proofs.Least.{nearest_least}
use Rattle.ch_grid.specs.declared.param.Param.{Param}
use Rattle.ch_grid.specs.Grid.{size, sizes}
use Rattle.ch_grid.specs.Points.{is_point}
use Rattle.ch_grid.proofs.Sizes.{size_some}
use Rattle.ch_script.specs.Requirements.{all_requirements}
use Rattle.ch_script.specs.declared.recipe.Cond.{Cond}
use Rattle.ch_workload.specs.Admissible.{first_point, has_admissible}

-- the first point is one of the grid
pub first_inside : (ps : List Param) → is_point (sizes ps) (first_point ps) ≡ true
first_inside [] = refl
first_inside (p ∷ ps) =
    let one = size_some p in
    let some : 0 < size p = omega (arith, one) in
    and_from (nat_lt 0 (size p)) (is_point (sizes ps) (first_point ps)) (lt-ltb 0 (size p) some) (first_inside ps)

-- what is found is an admissible point, and there is one where one is found

module _ (params : List Param) (rows : List Form) where
  point_by : (o : Option (List ℕ)) → MatchOption o ((other : List ℕ) → IsTrue (is_point (sizes params) other) → is_admissible params rows other ≡ false) (λ best. IsNearest params rows (first_point params) best)
      → is_some o ≡ true → (point : List ℕ) × IsTrue (is_point (sizes params) point) × IsTrue (is_admissible params rows point)
  point_by None m h = absurd cc
  point_by (Some best) m h = (best, m.in_grid, m.admissible)

  found_by : (o : Option (List ℕ)) → MatchOption o ((other : List ℕ) → IsTrue (is_point (sizes params) other) → is_admissible params rows other ≡ false) (λ best. IsNearest params rows (first_point params) best)
      → (point : List ℕ) → IsTrue (is_point (sizes params) point) → IsTrue (is_admissible params rows point) → is_some o ≡ true
  found_by None m point i a = absurd (both_ways (is_admissible params rows point) (m point i) a)
  found_by (Some best) m point i a = refl

pub point_of : (conditions : List Cond) (params : List Param) → has_admissible conditions params ≡ true
    → (point : List ℕ) × IsTrue (is_point (sizes params) point) × IsTrue (is_admissible params (all_requirements (length params) conditions) point)
unfolding has_admissible
point_of conditions params h =
    let rows = all_requirements (length params) conditions in
    point_by params rows (nearest params rows (first_point params)) (nearest_least params rows (first_point params)) h

pub some_of : (conditions : List Cond) (params : List Param) (point : List ℕ) → IsTrue (is_point (sizes params) point)
    → IsTrue (is_admissible params (all_requirements (length params) conditions) point) → has_admissible conditions params ≡ true
unfolding has_admissible
some_of conditions params point i a =
    let rows = all_requirements (length params) conditions in
    found_by params rows (nearest params rows (first_point params)) (nearest_least params rows (first_point params)) point i a

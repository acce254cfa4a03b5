-- The forms of a recipe's conditions, and the point that is used for a point.
use Rattle.std.proofs.Common.{◌≡◌, sym, ap, ◌∙◌, subst, ℕ, Option, Some, None, List, length, get_or}
use Rattle.std.specs.Bool.{IsTrue}
use Rattle.std.specs.List.{All}
use Rattle.std.specs.Option.{MatchOption, unwrap_or}
use Rattle.std.proofs.lemmas.List.Elements.{All-map}
use Rattle.ch_affine.specs.Form.{Form}
use Rattle.ch_grid.specs.Grid.{sizes}
use Rattle.ch_grid.specs.Points.{is_point}
use Rattle.ch_grid.specs.declared.param.Param.{Param}
use Rattle.ch_constrain.specs.Nearest.{IsNearest, nearest}
use Rattle.ch_script.specs.Recipes.{RecipeParts}
use Rattle.ch_script.specs.Requirements.{requirement, requirements}
use Rattle.ch_script.specs.declared.recipe.Cond.{Cond}
use Rattle.ch_script.proofs.RequirementsFit.{requirement_long}
use Rattle.ch_variant.specs.Points.{used_point}

-- ---- each form has a coefficient for each parameter

all_wide : (params : ℕ) (cs : List Cond) → All (λ c. length (requirement params c).coefs ≡ params) cs
all_wide params cs = λ k d l. requirement_long params (get_or cs k d)

pub requirements_wide : (recipe : RecipeParts) → All (λ (row : Form). length row.coefs ≡ length recipe.params) (requirements recipe)
requirements_wide recipe =
    All-map (λ (row : Form). length row.coefs ≡ length recipe.params) (requirement (length recipe.params)) recipe.conditions
    (all_wide (length recipe.params) recipe.conditions)

-- the same of rows over a grid with as many parameters
pub rows_wide : (recipe : RecipeParts) (grid : List Param) (rows : List Form) → length grid ≡ length recipe.params → rows ≡ requirements recipe
    → All (λ (row : Form). length row.coefs ≡ length grid) rows
rows_wide recipe grid rows e f =
    subst (λ n. All (λ (row : Form). length row.coefs ≡ n) rows) (sym e)
    (subst (All (λ (row : Form). length row.coefs ≡ length recipe.params)) (sym f) (requirements_wide recipe))

-- ---- the point that is used

pub used_some : (recipe : RecipeParts) (grid : List Param) (point : List ℕ) (rows : List Form) (r : Option (List ℕ)) (used : List ℕ) → rows ≡ requirements recipe
    → r ≡ nearest grid rows point → r ≡ Some used → used ≡ used_point recipe grid point
used_some recipe grid point rows r used e v s =
    ap (λ o. unwrap_or o point) (sym s ∙ v ∙ ap (λ rs. nearest grid rs point) e)

pub used_none : (recipe : RecipeParts) (grid : List Param) (point : List ℕ) (rows : List Form) (r : Option (List ℕ)) (used : List ℕ) → rows ≡ requirements recipe
    → r ≡ nearest grid rows point → r ≡ None → used ≡ point → used ≡ used_point recipe grid point
used_none recipe grid point rows r used e v s u =
    u ∙ ap (λ o. unwrap_or o point) (sym s ∙ v ∙ ap (λ rs. nearest grid rs point) e)

pub used_in_grid : (A : Type 0) (grid : List Param) (rows : List Form) (point : List ℕ) (r : Option (List ℕ)) (used : List ℕ)
    → MatchOption r A (λ best. IsNearest grid rows point best) → r ≡ Some used → IsTrue (is_point (sizes grid) used)
used_in_grid A grid rows point r used m e = (subst (λ o. MatchOption o A (λ best. IsNearest grid rows point best)) e m).in_grid

pub point_in_grid : (grid : List Param) (point used : List ℕ) → IsTrue (is_point (sizes grid) point) → used ≡ point → IsTrue (is_point (sizes grid) used)
point_in_grid grid point used h e = subst (λ p. IsTrue (is_point (sizes grid) p)) (sym e) h

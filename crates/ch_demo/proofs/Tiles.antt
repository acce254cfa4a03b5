-- The recipe and the grid of the deck that is made from a number are what their types keep.
use Rattle.std.proofs.Common.{◌≡◌, refl, sym, subst, Option, None, List, [], ℕ}
use Rattle.std.specs.Bool.{IsTrue}
use Rattle.ch_demo.specs.Generated.{sizes_tried, two_tiles}
use Rattle.ch_grid.specs.Grid.{fault_of, size}
use Rattle.ch_grid.specs.declared.grid.GridError.{GridError}
use Rattle.ch_grid.specs.declared.param.Param.{Param}
use Rattle.ch_script.specs.Recipes.{is_recipe, recipe_of}
use Rattle.ch_script.specs.declared.recipe.Command.{Command}
use Rattle.ch_script.specs.declared.recipe.Cond.{Cond}

pub tiles_fit : (name : List ℕ) (params : List (List ℕ)) (conditions : List Cond) (commands : List Command) → params ≡ two_tiles.params → conditions ≡ [] → commands ≡ two_tiles.commands
    → IsTrue (is_recipe (recipe_of name params conditions commands))
tiles_fit name params conditions commands p q r =
    subst (λ ps. IsTrue (is_recipe (recipe_of name ps conditions commands))) (sym p)
    (subst (λ cs. IsTrue (is_recipe (recipe_of name two_tiles.params cs commands))) (sym q)
    (subst (λ cs. IsTrue (is_recipe (recipe_of name two_tiles.params [] cs))) (sym r) refl))

pub no_fault : (params : List Param) → params ≡ sizes_tried → fault_of params ≡ None
unfolding size
no_fault params p = subst (λ ps. fault_of ps ≡ None) (sym p) refl

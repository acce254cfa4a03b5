-- What is known of a printed recipe.
use Rattle.std.proofs.Common.{◌≡◌, ℕ, List, Result, Ok, Err, IfOk, sym, subst}
use Rattle.std.specs.Bool.{IsTrue}
use Rattle.ch_script.specs.Recipes.{RecipeParts, is_recipe}
use Rattle.ch_scriptprint.specs.Back.{IsReadAs}
use Rattle.ch_scriptprint.specs.Printable.{is_printable}
use Rattle.ch_scriptprint.specs.Printed.{recipe_text}
use Rattle.ch_scriptprint.proofs.RecipeRead.{read_back}

pub reads : {E : Type 0} (recipe : RecipeParts) (r : Result (List ℕ) E) → IfOk r (λ text. text ≡ recipe_text recipe) → IsTrue (is_recipe recipe) → IsTrue (is_printable recipe)
    → IfOk r (λ text. IsReadAs text recipe)
reads recipe (Err e) h formed p = tt
reads recipe (Ok text) h formed p = subst (λ (t : List ℕ). IsReadAs t recipe) (sym h) (read_back recipe formed p)

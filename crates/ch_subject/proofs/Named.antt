-- What a session names is there.
use Rattle.std.proofs.Common.{◌≡◌, sym, ap, ◌∙◌, subst, refl, ℕ, zero, suc, ◌<◌, Bool, true, false, ◌&&◌, nat_eq, nat_lt, List, [], ◌∷◌, length, slice_get, Option, Some, None, arith}
use Rattle.std.specs.Bool.{IsTrue}
use Rattle.std.specs.Option.{option_map_or}
use Rattle.std.proofs.lemmas.Bool.{and_parts}
use Rattle.std.proofs.lemmas.Bool.Decides.{nat_tests}
use Rattle.ch_script.specs.Recipes.{RecipeParts}
use Rattle.ch_workload.specs.Sessions.{grid_fits, numbered, session_fits}
use Rattle.ch_workload.specs.Tuned.{Tuned}

less : (a b : ℕ) → nat_lt a b ≡ true → a < b
less a b h = grind (arith, nat_tests)

same : (a b : ℕ) → nat_eq a b ≡ true → a ≡ b
same a b h = grind (arith, nat_tests)

pub program_there : (n : ℕ) (recipes : List RecipeParts) (s : Tuned) → IsTrue (session_fits n recipes s) → s.program < n
program_there n recipes s h = less s.program n (and_parts (nat_lt s.program n) _ h).0

-- the recipe of a number that is there, and its parameters
there : (p : RecipeParts → Bool) (recipes : List RecipeParts) (k : ℕ) → option_map_or p (slice_get recipes k) false ≡ true → (k < length recipes) × (p (numbered recipes k) ≡ true)
there p [] k h = absurd (cc h)
there p (r ∷ rs) zero h = (omega arith, h)
there p (r ∷ rs) (suc k) h = let more = there p rs k h in (omega (arith, more.0), more.1)

pub recipe_there : (n : ℕ) (recipes : List RecipeParts) (s : Tuned) → IsTrue (session_fits n recipes s) → s.recipe < length recipes
recipe_there n recipes s h = (there (grid_fits s.params) recipes s.recipe (and_parts (nat_lt s.program n) _ h).1).0

pub as_many : (n : ℕ) (recipes : List RecipeParts) (s : Tuned) → IsTrue (session_fits n recipes s) → length s.params ≡ length (numbered recipes s.recipe).params
as_many n recipes s h =
    let fits = (there (grid_fits s.params) recipes s.recipe (and_parts (nat_lt s.program n) _ h).1).1 in
    same (length s.params) (length (numbered recipes s.recipe).params) (and_parts (nat_eq (length s.params) (length (numbered recipes s.recipe).params)) _ fits).0

-- Names that were read: what they stand for exists.
use Rattle.std.proofs.Common.{◌≡◌, ℕ, ◌<◌, ◌≤◌, pos, Bool, List, [], ◌∷◌, length, Option, Some, None, refl}
use Rattle.std.specs.List.{position}
use Rattle.std.specs.Str.{bytes_eq}
use Rattle.std.proofs.lemmas.List.Quantifiers.{position-Some}
use Rattle.ch_lex.specs.declared.error.Code2.TheVariants.{D2, D3}
use Rattle.ch_lex.specs.declared.token.Token.{Token}
use Rattle.ch_nest.specs.declared.nest.ArrayDecl.{ArrayDecl}
use Rattle.ch_nestparse.specs.declared.program.ParsedProgram.{ParsedProgram}
use Rattle.ch_nestparse.specs.Read.{place}
use Rattle.ch_nestparse.proofs.Placed.{placed_bind, placed_err, placed_ok}
use Rattle.ch_script.specs.Recipes.{RecipeParts}
use Rattle.ch_script.proofs.Left.{Leaves, Left, left_place, name_left}
use Rattle.ch_workload.specs.Names.{array_at, find_array, find_program, find_recipe, find_session, found_at, program_at, recipe_at, session_at}
use Rattle.ch_workload.specs.Tuned.{Tuned}

position_inside : {X : Type 0} (p : X → Bool) (xs : List X) (k : ℕ) → position p xs ≡ Some k → k < length xs
position_inside p [] k h = absurd cc
position_inside p (x ∷ xs) k h = (position-Some p (x ∷ xs) k x h).0

module _ (bytes : List ℕ) (n : ℕ) where
  found_left : (count at : ℕ) (o : Option ℕ) (ts : List Token) → at ≤ length bytes → ((k : ℕ) → o ≡ Some k → k < count) → Left bytes n ts
      → Leaves bytes (λ k. k < count) n (found_at at o ts)
  found_left count at (Some k) ts l g h = placed_ok bytes (λ x. (x.0 < count) × Left bytes n x.1) (k, ts) (g k refl, h)
  found_left count at None ts l g h = placed_err bytes (λ x. (x.0 < count) × Left bytes n x.1) D3 at (pos 0) l

  pub program_left : (programs : List ParsedProgram) (ts : List Token) → Left bytes n ts → Leaves bytes (λ k. k < length programs) n (program_at bytes programs ts)
  unfolding program_at
  program_left programs ts h =
      placed_bind bytes (name_left bytes D2 n ts h) (λ name g.
      found_left (length programs) (place bytes ts) (find_program name.0 programs) name.1 (left_place bytes n ts h)
      (λ k e. position_inside (λ (p : ParsedProgram). bytes_eq p.name name.0) programs k e) g.1)

  pub recipe_left : (recipes : List RecipeParts) (ts : List Token) → Left bytes n ts → Leaves bytes (λ k. k < length recipes) n (recipe_at bytes recipes ts)
  unfolding recipe_at
  recipe_left recipes ts h =
      placed_bind bytes (name_left bytes D2 n ts h) (λ name g.
      found_left (length recipes) (place bytes ts) (find_recipe name.0 recipes) name.1 (left_place bytes n ts h)
      (λ k e. position_inside (λ (r : RecipeParts). bytes_eq r.name name.0) recipes k e) g.1)

  pub session_left : (sessions : List Tuned) (ts : List Token) → Left bytes n ts → Leaves bytes (λ k. k < length sessions) n (session_at bytes sessions ts)
  unfolding session_at
  session_left sessions ts h =
      placed_bind bytes (name_left bytes D2 n ts h) (λ name g.
      found_left (length sessions) (place bytes ts) (find_session name.0 sessions) name.1 (left_place bytes n ts h)
      (λ k e. position_inside (λ (s : Tuned). bytes_eq s.name name.0) sessions k e) g.1)

  pub array_left : (arrays : List ArrayDecl) (ts : List Token) → Left bytes n ts → Leaves bytes (λ k. k < length arrays) n (array_at bytes arrays ts)
  unfolding array_at
  array_left arrays ts h =
      placed_bind bytes (name_left bytes D2 n ts h) (λ name g.
      found_left (length arrays) (place bytes ts) (find_array name.0 arrays) name.1 (left_place bytes n ts h)
      (λ k e. position_inside (λ (a : ArrayDecl). bytes_eq a.name name.0) arrays k e) g.1)

-- The arguments of a command that was read: each parameter exists.
use Rattle.std.proofs.Common.{◌≡◌, ℕ, ◌<◌, ◌≤◌, pos, true, List, [], ◌∷◌, ◌++◌, length, drop, Option, Some, None, refl, lt-ltb}
use Rattle.std.proofs.lemmas.List.Folds.{list_all-append}
use Rattle.ch_lex.specs.declared.error.Code2.TheVariants.{R1, R3}
use Rattle.ch_lex.specs.declared.token.Sign.TheVariants as signs
use Rattle.ch_lex.specs.declared.token.Token.{Token}
use Rattle.ch_nestparse.specs.declared.ahead.Look.{Look}
use Rattle.ch_nestparse.specs.declared.ahead.Look.TheVariants as looks
use Rattle.ch_nestparse.specs.Read.{place, seen, text_at}
use Rattle.ch_nestparse.proofs.Placed.{placed_bind, placed_err, placed_ok}
use Rattle.ch_script.specs.Arguments.{arg_at, arg_by, arg_comma_at, list_at, list_comma_at, more_arg_at, param_arg}
use Rattle.ch_script.specs.Names.{find_text, next_is_comma}
use Rattle.ch_script.specs.Recipes.{arg_fits, args_fit}
use Rattle.ch_script.specs.declared.recipe.Arg.{Arg}
use Rattle.ch_script.specs.declared.recipe.Arg.TheVariants as arg
use Rattle.ch_script.proofs.Left.{Leaves, Left, integer_left, left_drop, left_place, repeated_left, sign_left}
use Rattle.ch_script.proofs.NamesFit.{found_inside}

module _ (bytes : List ℕ) (ps : List (List ℕ)) (n : ℕ) where
  abbrev pub ArgFits : Arg → Type 0
  ArgFits a = arg_fits (length ps) a ≡ true

  abbrev pub ArgsFit : List Arg → Type 0
  ArgsFit args = args_fit (length ps) args ≡ true

  param_arg_left : (at : ℕ) (o : Option ℕ) (ts : List Token) → at ≤ length bytes → ((k : ℕ) → o ≡ Some k → k < length ps) → Left bytes n ts
      → Leaves bytes ArgFits n (param_arg at o ts)
  param_arg_left at (Some k) ts l g h = placed_ok bytes (λ x. ArgFits x.0 × Left bytes n x.1) (arg.Param k, ts) (lt-ltb k (length ps) (g k refl), h)
  param_arg_left at None ts l g h = placed_err bytes (λ x. ArgFits x.0 × Left bytes n x.1) R3 at (pos 0) l

  number_left : (ts : List Token) → Left bytes n ts → Leaves bytes ArgFits n (arg_by looks.End bytes ps ts)
  number_left ts h = placed_bind bytes (integer_left bytes R1 n ts h) (λ z a. placed_ok bytes (λ x. ArgFits x.0 × Left bytes n x.1) (arg.Number z.0, z.1) (refl, a.1))

  arg_by_left : (look : Look) (ts : List Token) → Left bytes n ts → Leaves bytes ArgFits n (arg_by look bytes ps ts)
  arg_by_left looks.Name ts h =
      param_arg_left (place bytes ts) (find_text (text_at bytes ts) ps) (drop 1 ts) (left_place bytes n ts h) (λ k e. found_inside (text_at bytes ts) ps k e)
      (left_drop bytes n ts h)
  arg_by_left (looks.Keyword k) ts h = number_left ts h
  arg_by_left (looks.Number z) ts h = number_left ts h
  arg_by_left (looks.Sign s) ts h = number_left ts h
  arg_by_left looks.End ts h = number_left ts h

  pub arg_left : (ts : List Token) → Left bytes n ts → Leaves bytes ArgFits n (arg_at bytes ps ts)
  unfolding arg_at
  arg_left ts h = arg_by_left (seen bytes ts) ts h

  pub arg_comma_left : (ts : List Token) → Left bytes n ts → Leaves bytes ArgFits n (arg_comma_at bytes ps ts)
  unfolding arg_comma_at
  arg_comma_left ts h =
      placed_bind bytes (arg_left ts h) (λ a b.
      placed_bind bytes (sign_left bytes R1 signs.Comma n a.1 b.1) (λ rest c.
      placed_ok bytes (λ x. ArgFits x.0 × Left bytes n x.1) (a.0, rest) (b.0, c)))

  more_arg_left : (found : List Arg) (ts : List Token) → ArgsFit found × Left bytes n ts → Leaves bytes ArgsFit n (more_arg_at bytes ps found ts)
  unfolding more_arg_at
  more_arg_left found ts h =
      placed_bind bytes (sign_left bytes R1 signs.Comma n ts h.1) (λ inside a.
      placed_bind bytes (arg_left inside a) (λ x b.
      placed_ok bytes (λ x. ArgsFit x.0 × Left bytes n x.1) (found ++ x.0 ∷ [], x.1) (rw (list_all-append, h.0, b.0) refl, b.1)))

  pub list_left : (ts : List Token) → Left bytes n ts → Leaves bytes ArgsFit n (list_at bytes ps ts)
  unfolding list_at
  list_left ts h =
      placed_bind bytes (sign_left bytes R1 signs.LeftBracket n ts h) (λ inside a.
      placed_bind bytes (arg_left inside a) (λ first b.
      placed_bind bytes (repeated_left bytes (λ args us. ArgsFit args × Left bytes n us) (next_is_comma bytes) (more_arg_at bytes ps) more_arg_left (length first.1) (first.0 ∷ []) first.1 (rw b.0 refl, b.1)) (λ all c.
      placed_bind bytes (sign_left bytes R1 signs.RightBracket n all.1 c.1) (λ rest d.
      placed_ok bytes (λ x. ArgsFit x.0 × Left bytes n x.1) (all.0, rest) (c.0, d)))))

  pub list_comma_left : (ts : List Token) → Left bytes n ts → Leaves bytes ArgsFit n (list_comma_at bytes ps ts)
  unfolding list_comma_at
  list_comma_left ts h =
      placed_bind bytes (list_left ts h) (λ all b.
      placed_bind bytes (sign_left bytes R1 signs.Comma n all.1 b.1) (λ rest c.
      placed_ok bytes (λ x. ArgsFit x.0 × Left bytes n x.1) (all.0, rest) (b.0, c)))

-- The arguments of commands: numbers and parameters, and lists of them.
use Rattle.std.specs.Prelude.{ℕ, List, [], ◌∷◌, ◌++◌, length, drop, Option, Some, None, Ok}
use Rattle.ch_lex.specs.declared.error.Code2.TheVariants.{R1, R3}
use Rattle.ch_lex.specs.declared.token.Sign.TheVariants as signs
use Rattle.ch_lex.specs.declared.token.Token.{Token}
use Rattle.ch_nestparse.specs.declared.ahead.Look.{Look}
use Rattle.ch_nestparse.specs.declared.ahead.Look.TheVariants as looks
use Rattle.ch_nestparse.specs.Read.{◌>>=◌, Read, integer_at, place, refused, repeated, seen, sign_at, text_at}
use Rattle.ch_script.specs.declared.recipe.Arg.{Arg}
use Rattle.ch_script.specs.declared.recipe.Arg.TheVariants as arg
use Rattle.ch_script.specs.Names.{find_text, next_is_comma}

abbrev pub param_arg : ℕ → Option ℕ → List Token → Read Arg
param_arg at (Some k) ts = Ok (arg.Param k, ts)
param_arg at None ts = refused R3 at

abbrev pub arg_by : Look → List ℕ → List (List ℕ) → List Token → Read Arg
arg_by looks.Name bytes params ts = param_arg (place bytes ts) (find_text (text_at bytes ts) params) (drop 1 ts)
arg_by other bytes params ts = integer_at bytes R1 ts >>= λ n. Ok (arg.Number n.0, n.1)

-- a parameter's name, a number, or `-` and a number
unfoldable pub arg_at : List ℕ → List (List ℕ) → List Token → Read Arg
arg_at bytes params ts = arg_by (seen bytes ts) bytes params ts

-- an argument, and a `,` behind it
unfoldable pub arg_comma_at : List ℕ → List (List ℕ) → List Token → Read Arg
arg_comma_at bytes params ts = do
  a ← arg_at bytes params ts
  rest ← sign_at bytes R1 signs.Comma a.1
  Ok (a.0, rest)

-- one argument more behind a `,`
unfoldable pub more_arg_at : List ℕ → List (List ℕ) → List Arg → List Token → Read (List Arg)
more_arg_at bytes params found ts = do
  inside ← sign_at bytes R1 signs.Comma ts
  a ← arg_at bytes params inside
  Ok (found ++ a.0 ∷ [], a.1)

-- one argument and more in brackets; there are no more of them than tokens
unfoldable pub list_at : List ℕ → List (List ℕ) → List Token → Read (List Arg)
list_at bytes params ts = do
  inside ← sign_at bytes R1 signs.LeftBracket ts
  first ← arg_at bytes params inside
  all ← repeated (next_is_comma bytes) (more_arg_at bytes params) (length first.1) (first.0 ∷ []) first.1
  rest ← sign_at bytes R1 signs.RightBracket all.1
  Ok (all.0, rest)

-- a list, and a `,` behind it
unfoldable pub list_comma_at : List ℕ → List (List ℕ) → List Token → Read (List Arg)
list_comma_at bytes params ts = do
  all ← list_at bytes params ts
  rest ← sign_at bytes R1 signs.Comma all.1
  Ok (all.0, rest)

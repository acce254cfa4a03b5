-- The parameters of a session: those of its recipe, in order, each with its range.
use Rattle.std.specs.Prelude.{ℕ, ◌+◌, ℤ, Bool, false, List, [], ◌∷◌, ◌++◌, length, slice_get, Ok}
use Rattle.std.specs.Option.{option_map_or}
use Rattle.std.specs.Str.{bytes_eq}
use Rattle.ch_grid.specs.declared.param.Param.{Param}
use Rattle.ch_grid.specs.Grid.{is_good}
use Rattle.ch_lex.specs.declared.error.Code2.TheVariants.{D2, D4, D5}
use Rattle.ch_lex.specs.declared.keyword.Keyword.TheVariants as words
use Rattle.ch_lex.specs.declared.token.Sign.TheVariants as signs
use Rattle.ch_lex.specs.declared.token.Token.{Token}
use Rattle.ch_nestparse.specs.Read.{◌>>=◌, Read, begins, guarded, integer_at, keyword_at, name_at, place, repeated, sign_at}

abbrev pub param : ℤ → ℤ → ℤ → Param
param low high step = record { low = low; high = high; step = step }

-- the name is that of parameter k
abbrev pub is_named : List (List ℕ) → ℕ → List ℕ → Bool
is_named names k text = option_map_or (λ name. bytes_eq name text) (slice_get names k) false

-- `=`, and a number, `to`, a number, `step`, a number
unfoldable pub range_at : List ℕ → List Token → Read Param
range_at bytes ts = do
  equals ← sign_at bytes D2 signs.Equals ts
  low ← integer_at bytes D2 equals
  upto ← keyword_at bytes D2 words.To low.1
  high ← integer_at bytes D2 upto
  each ← keyword_at bytes D2 words.Step high.1
  step ← integer_at bytes D2 each
  Ok (param low.0 high.0 step.0, step.1)

-- One parameter more: its name is the next one of the recipe's, and its range is judged once its step was read, at the name.
unfoldable pub param_at : List ℕ → List (List ℕ) → List Param → List Token → Read (List Param)
param_at bytes names found ts = do
  word ← keyword_at bytes D2 words.Param ts
  name ← name_at bytes D2 word
  next ← guarded (is_named names (length found) name.0) D4 (place bytes word) (λ _. Ok name.1)
  range ← range_at bytes next
  good ← guarded (is_good range.0) D5 (place bytes word) (λ _. Ok range.1)
  rest ← sign_at bytes D2 signs.Semicolon good
  Ok (found ++ range.0 ∷ [], rest)

abbrev pub begins_param : List ℕ → List Token → Bool
begins_param bytes ts = begins bytes words.Param ts

-- all parameters; one past those of the recipe is refused
unfoldable pub params_at : List ℕ → List (List ℕ) → List Token → Read (List Param)
params_at bytes names ts = repeated (begins_param bytes) (param_at bytes names) (length names + 1) [] ts

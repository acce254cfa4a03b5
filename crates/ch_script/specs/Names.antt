-- The names of a recipe: of its parameters, and of the levels of loops in a condition.
use Rattle.std.specs.Prelude.{ℕ, Bool, ◌&&◌, nat_eq, nat_lt, if◌then◌else◌, codes, is_none, List, [], ◌∷◌, ◌++◌, length, drop, Option, find, Ok}
use Rattle.std.specs.List.{position}
use Rattle.std.specs.Str.{bytes_eq}
use Rattle.ch_lex.specs.declared.error.Code2.TheVariants.{R1, R3, R4}
use Rattle.ch_lex.specs.declared.token.Sign.TheVariants as signs
use Rattle.ch_lex.specs.declared.token.Token.{Token}
use Rattle.ch_nestparse.specs.Read.{◌>>=◌, Read, choose, guarded, name_at, next_is, place, repeated, sign_at}
use Rattle.ch_script.specs.Limits.{most_params}

-- the place of a text in a list of texts
abbrev pub find_text : List ℕ → List (List ℕ) → Option ℕ
find_text text texts = position (λ other. bytes_eq other text) texts

abbrev pub level_name : ℕ → List ℕ
level_name l =
    if nat_eq l 1 then codes "L1"
    else (if nat_eq l 2 then codes "L2"
    else (if nat_eq l 3 then codes "L3"
    else (if nat_eq l 4 then codes "L4"
    else (if nat_eq l 5 then codes "L5"
    else (if nat_eq l 6 then codes "L6"
    else (if nat_eq l 7 then codes "L7"
    else (if nat_eq l 8 then codes "L8"
    else (if nat_eq l 9 then codes "L9"
    else codes "L10"))))))))

abbrev pub levels : List ℕ
levels = 1 ∷ 2 ∷ 3 ∷ 4 ∷ 5 ∷ 6 ∷ 7 ∷ 8 ∷ 9 ∷ 10 ∷ []

-- the level of this name
unfoldable pub level_of : List ℕ → Option ℕ
level_of text = find (λ l. bytes_eq (level_name l) text) levels

-- a name that neither a parameter nor a level has
abbrev pub is_free : List ℕ → List (List ℕ) → Bool
is_free text params = is_none (find_text text params) && is_none (level_of text)

-- one parameter more
unfoldable pub param_at : List ℕ → List (List ℕ) → List Token → Read (List (List ℕ))
param_at bytes params ts = do
  name ← name_at bytes R1 ts
  free ← guarded (is_free name.0 params) R3 (place bytes ts) (λ _. Ok name.0)
  few ← guarded (nat_lt (length params) most_params) R4 (place bytes ts) (λ _. Ok free)
  Ok (params ++ few ∷ [], name.1)

abbrev pub next_is_comma : List ℕ → List Token → Bool
next_is_comma bytes ts = next_is bytes signs.Comma ts

-- one parameter more behind a `,`
unfoldable pub more_param_at : List ℕ → List (List ℕ) → List Token → Read (List (List ℕ))
more_param_at bytes params ts = sign_at bytes R1 signs.Comma ts >>= param_at bytes params

-- The parameters, behind their `(` and up to their `)`. A 7th one is refused.
unfoldable pub params_at : List ℕ → List Token → Read (List (List ℕ))
params_at bytes ts = choose (next_is bytes signs.RightParen ts) (λ _. Ok ([], drop 1 ts))
    (λ _. param_at bytes [] ts >>= λ first. repeated (next_is_comma bytes) (more_param_at bytes) most_params first.0 first.1
    >>= λ all. sign_at bytes R1 signs.RightParen all.1 >>= λ rest. Ok (all.0, rest))

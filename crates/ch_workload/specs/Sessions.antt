-- A session section: `session`, a name, and in braces its program, its recipe, the ranges of the recipe's parameters, and how often
-- each trial is measured.
use Rattle.std.specs.Prelude.{ℕ, ◌-◌, Bool, false, ◌&&◌, nat_eq, nat_le, nat_lt, codes, List, [], length, drop, slice_get, Result, Ok}
use Rattle.std.specs.Option.{option_map_or}
use Rattle.std.specs.Str.{bytes_eq}
use Rattle.ch_grid.specs.declared.param.Param.{Param}
use Rattle.ch_grid.specs.Grid.{sizes}
use Rattle.ch_grid.specs.Points.{count}
use Rattle.ch_lex.specs.declared.error.Code2.TheVariants.{D2, D4, D5}
use Rattle.ch_lex.specs.declared.token.Sign.TheVariants as signs
use Rattle.ch_lex.specs.declared.token.Token.{Token}
use Rattle.ch_nestparse.specs.declared.program.ParsedProgram.{ParsedProgram}
use Rattle.ch_nestparse.specs.Read.{choose, if_on, number_at, place, seen, sign_at, text_at}
use Rattle.ch_script.specs.Recipes.{RecipeParts, recipe_of}
use Rattle.ch_workload.specs.declared.error.DeckCode.TheVariants.{Plain, D13, D14}
use Rattle.ch_workload.specs.declared.error.SectionError.{SectionError}
use Rattle.ch_workload.specs.declared.session.ParsedSession.{ParsedSession}
use Rattle.ch_workload.specs.Headings.{heading_at}
use Rattle.ch_workload.specs.Limits.{most_points}
use Rattle.ch_workload.specs.Params.{params_at}
use Rattle.ch_workload.specs.Refusals.{◌>>=◌, admitted, lifted}
use Rattle.ch_workload.specs.Admissible.{has_admissible}
use Rattle.ch_workload.specs.Tuned.{Tuned, are_repeats, tuned}

-- the recipe of a number; a number past the list, which no name stands for, has none of its parts
abbrev pub numbered : List RecipeParts → ℕ → RecipeParts
numbered recipes k = option_map_or (λ r. r) (slice_get recipes k) (recipe_of [] [] [] [])

-- the next token is `repeat`, which is a plain name elsewhere
abbrev pub begins_repeat : List ℕ → List Token → Bool
begins_repeat bytes ts = if_on (seen bytes ts) (bytes_eq (text_at bytes ts) (codes "repeat"))

-- a number from 1 to 9, and `;`, where `ts` are the tokens after `repeat`
unfoldable pub times_at : List ℕ → List Token → Result (ℕ × List Token) SectionError
times_at bytes ts = do
  times ← lifted (number_at bytes D2 ts)
  few ← admitted (are_repeats times.0) D13 (place bytes ts) times.1
  rest ← lifted (sign_at bytes D2 signs.Semicolon few)
  Ok (times.0, rest)

-- how often each trial is measured: once, where nothing is said
unfoldable pub repeats_at : List ℕ → List Token → Result (ℕ × List Token) SectionError
repeats_at bytes ts = choose (begins_repeat bytes ts) (λ _. times_at bytes (drop 1 ts)) (λ _. Ok (1, ts))

abbrev pub has_few_points : List Param → Bool
has_few_points params = nat_le (count (sizes params)) most_points

-- The closing brace. There all of the recipe's parameters have a range, the points are few, and some point is admissible.
unfoldable pub closed_at : List ℕ → RecipeParts → List Param → List Token → Result (List Param × List Token) SectionError
closed_at bytes recipe params ts = do
  rest ← lifted (sign_at bytes D2 signs.RightBrace ts)
  whole ← admitted (nat_eq (length params) (length recipe.params)) (Plain D4) (place bytes ts) rest
  few ← admitted (has_few_points params) (Plain D5) (place bytes ts) whole
  useful ← admitted (has_admissible recipe.conditions params) D14 (place bytes ts) few
  Ok (params, useful)

unfoldable pub session_at : List ℕ → List ParsedProgram → List RecipeParts → List Token → Result (Tuned × List Token) SectionError
session_at bytes programs recipes ts = do
  heading ← lifted (heading_at bytes programs recipes ts)
  params ← lifted (params_at bytes (numbered recipes heading.0.recipe).params heading.1)
  repeats ← repeats_at bytes params.1
  closed ← closed_at bytes (numbered recipes heading.0.recipe) params.0 repeats.1
  Ok (tuned heading.0.name heading.0.program heading.0.recipe closed.0 repeats.0, closed.1)

-- the section whose first token is token `from`, and the number of the first token behind it
abbrev pub section_at : List ℕ → List ParsedProgram → List RecipeParts → List Token → ℕ → Result ParsedSession SectionError
section_at bytes programs recipes tokens from = session_at bytes programs recipes (drop from tokens) >>= λ x.
    Ok (record { session = x.0; next = length tokens - length x.1 })

-- the parameters are those of the recipe, and some point is admissible
abbrev pub grid_fits : List Param → RecipeParts → Bool
grid_fits params recipe = nat_eq (length params) (length recipe.params) && has_admissible recipe.conditions params

-- a session fits so many programs and these recipes: its program and its recipe exist, and its grid is one of the recipe's
abbrev pub session_fits : ℕ → List RecipeParts → Tuned → Bool
session_fits programs recipes s = nat_lt s.program programs && option_map_or (grid_fits s.params) (slice_get recipes s.recipe) false

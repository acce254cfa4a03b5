-- Names that sessions and clients use: each is that of something that is declared.
use Rattle.std.specs.Prelude.{ℕ, List, Option, Some, None, Ok}
use Rattle.std.specs.List.{position}
use Rattle.std.specs.Str.{bytes_eq}
use Rattle.ch_lex.specs.declared.error.Code2.TheVariants.{D2, D3}
use Rattle.ch_lex.specs.declared.token.Token.{Token}
use Rattle.ch_nest.specs.declared.nest.ArrayDecl.{ArrayDecl}
use Rattle.ch_nestparse.specs.declared.program.ParsedProgram.{ParsedProgram}
use Rattle.ch_nestparse.specs.Read.{◌>>=◌, Read, name_at, place, refused}
use Rattle.ch_script.specs.Recipes.{RecipeParts}
use Rattle.ch_workload.specs.Tuned.{Tuned}

-- the number of what has the name, from 0

abbrev pub find_program : List ℕ → List ParsedProgram → Option ℕ
find_program text programs = position (λ p. bytes_eq p.name text) programs

abbrev pub find_recipe : List ℕ → List RecipeParts → Option ℕ
find_recipe text recipes = position (λ r. bytes_eq r.name text) recipes

abbrev pub find_session : List ℕ → List Tuned → Option ℕ
find_session text sessions = position (λ s. bytes_eq s.name text) sessions

abbrev pub find_array : List ℕ → List ArrayDecl → Option ℕ
find_array text arrays = position (λ a. bytes_eq a.name text) arrays

-- what was found of the name at this place, and the tokens after it
abbrev pub found_at : ℕ → Option ℕ → List Token → Read ℕ
found_at at (Some k) ts = Ok (k, ts)
found_at at None ts = refused D3 at

-- the name of something that is declared, as its number

unfoldable pub program_at : List ℕ → List ParsedProgram → List Token → Read ℕ
program_at bytes programs ts =
    name_at bytes D2 ts >>= λ name. found_at (place bytes ts) (find_program name.0 programs) name.1

unfoldable pub recipe_at : List ℕ → List RecipeParts → List Token → Read ℕ
recipe_at bytes recipes ts =
    name_at bytes D2 ts >>= λ name. found_at (place bytes ts) (find_recipe name.0 recipes) name.1

unfoldable pub session_at : List ℕ → List Tuned → List Token → Read ℕ
session_at bytes sessions ts =
    name_at bytes D2 ts >>= λ name. found_at (place bytes ts) (find_session name.0 sessions) name.1

unfoldable pub array_at : List ℕ → List ArrayDecl → List Token → Read ℕ
array_at bytes arrays ts =
    name_at bytes D2 ts >>= λ name. found_at (place bytes ts) (find_array name.0 arrays) name.1

-- How a session begins: `session`, its name, and behind a brace its program and its recipe.
use Rattle.std.specs.Prelude.{ℕ, List, Ok}
use Rattle.ch_lex.specs.declared.error.Code2.TheVariants.{D2}
use Rattle.ch_lex.specs.declared.keyword.Keyword.TheVariants as words
use Rattle.ch_lex.specs.declared.token.Sign.TheVariants as signs
use Rattle.ch_lex.specs.declared.token.Token.{Token}
use Rattle.ch_nestparse.specs.declared.program.ParsedProgram.{ParsedProgram}
use Rattle.ch_nestparse.specs.Read.{◌>>=◌, Read, keyword_at, name_at, sign_at}
use Rattle.ch_script.specs.Recipes.{RecipeParts}
use Rattle.ch_workload.specs.declared.headings.Heading.{Heading}
use Rattle.ch_workload.specs.Names.{program_at, recipe_at}

-- `program`, a program's name and `;`
unfoldable pub program_line_at : List ℕ → List ParsedProgram → List Token → Read ℕ
program_line_at bytes programs ts = do
  word ← keyword_at bytes D2 words.Program ts
  program ← program_at bytes programs word
  rest ← sign_at bytes D2 signs.Semicolon program.1
  Ok (program.0, rest)

-- `recipe`, a recipe's name and `;`
unfoldable pub recipe_line_at : List ℕ → List RecipeParts → List Token → Read ℕ
recipe_line_at bytes recipes ts = do
  word ← keyword_at bytes D2 words.Recipe ts
  recipe ← recipe_at bytes recipes word
  rest ← sign_at bytes D2 signs.Semicolon recipe.1
  Ok (recipe.0, rest)

unfoldable pub heading_at : List ℕ → List ParsedProgram → List RecipeParts → List Token → Read Heading
heading_at bytes programs recipes ts = do
  word ← keyword_at bytes D2 words.Session ts
  name ← name_at bytes D2 word
  inside ← sign_at bytes D2 signs.LeftBrace name.1
  program ← program_line_at bytes programs inside
  recipe ← recipe_line_at bytes recipes program.1
  Ok (record { name = name.0; program = program.0; recipe = recipe.0 }, recipe.1)

-- A recipe section: `recipe`, a name, the parameters in parentheses, and in braces the conditions between them and the commands.
use Rattle.std.specs.Prelude.{ℕ, ◌-◌, List, length, drop, Result, Ok}
use Rattle.ch_lex.specs.declared.error.Code2.TheVariants.{R1}
use Rattle.ch_lex.specs.declared.error.ParseError.{ParseError}
use Rattle.ch_lex.specs.declared.keyword.Keyword.TheVariants as words
use Rattle.ch_lex.specs.declared.token.Sign.TheVariants as signs
use Rattle.ch_lex.specs.declared.token.Token.{Token}
use Rattle.ch_nestparse.specs.Read.{◌>>=◌, Read, keyword_at, name_at, sign_at}
use Rattle.ch_script.specs.declared.section.ParsedRecipe.{ParsedRecipe}
use Rattle.ch_script.specs.Commands.{commands_at, requires_at}
use Rattle.ch_script.specs.Names.{params_at}
use Rattle.ch_script.specs.Recipes.{RecipeParts, recipe_of}

unfoldable pub section_at : List ℕ → List Token → Read RecipeParts
section_at bytes ts = do
  word ← keyword_at bytes R1 words.Recipe ts
  name ← name_at bytes R1 word
  paren ← sign_at bytes R1 signs.LeftParen name.1
  params ← params_at bytes paren
  inside ← sign_at bytes R1 signs.LeftBrace params.1
  conditions ← requires_at bytes params.0 inside
  commands ← commands_at bytes params.0 conditions.1
  rest ← sign_at bytes R1 signs.RightBrace commands.1
  Ok (recipe_of name.0 params.0 conditions.0 commands.0, rest)

-- the section whose first token is token `from`, and the number of the first token behind it
abbrev pub recipe_at : List ℕ → List Token → ℕ → Result ParsedRecipe ParseError
recipe_at bytes tokens from =
    section_at bytes (drop from tokens) >>= λ x. Ok (record { recipe = x.0; next = length tokens - length x.1 })

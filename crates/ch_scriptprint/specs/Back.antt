-- A text is read as one recipe and nothing else: it has tokens, and they are a recipe section of this recipe, with no token
-- behind it.
use Rattle.std.specs.Prelude.{◌≡◌, ℕ, List, length, Ok}
use Rattle.ch_lex.specs.Tokens.{tokens_of}
use Rattle.ch_lex.specs.declared.token.Token.{Token}
use Rattle.ch_script.specs.Recipes.{RecipeParts}
use Rattle.ch_script.specs.Sections.{recipe_at}

pub record IsReadAs (text : List ℕ) (recipe : RecipeParts) : Type 0 where
  pub tokens : List Token
  pub lexed : tokens_of text ≡ Ok tokens
  pub parsed : recipe_at text tokens 0 ≡ Ok (record { recipe = recipe; next = length tokens })

-- The commands of a recipe, and the conditions before them.
use Rattle.std.specs.Prelude.{ℕ, ◌+◌, Bool, not, nat_lt, List, [], ◌∷◌, ◌++◌, length, Option, Some, None, Result, Ok}
use Rattle.std.specs.Str.{bytes_eq}
use Rattle.ch_lex.specs.declared.error.Code2.TheVariants.{R1, R2, R4}
use Rattle.ch_lex.specs.declared.error.ParseError.{ParseError}
use Rattle.ch_lex.specs.declared.token.Sign.TheVariants as signs
use Rattle.ch_lex.specs.declared.token.Token.{Token}
use Rattle.ch_nestparse.specs.Read.{◌>>=◌, Read, guarded, if_on, name_at, next_is, place, refused, repeated, seen, sign_at, text_at}
use Rattle.ch_script.specs.declared.recipe.Purpose.TheVariants as purposes
use Rattle.ch_script.specs.declared.recipe.Command.{Command}
use Rattle.ch_script.specs.declared.recipe.Command.TheVariants as commands
use Rattle.ch_script.specs.declared.recipe.Cond.{Cond}
use Rattle.ch_script.specs.declared.word.Word.{Word}
use Rattle.ch_script.specs.declared.word.Word.TheVariants as words
use Rattle.ch_script.specs.Arguments.{arg_at, arg_comma_at, list_at, list_comma_at}
use Rattle.ch_script.specs.Conditions.{condition_at}
use Rattle.ch_script.specs.Limits.{most_commands, most_conditions}
use Rattle.ch_script.specs.Words.{require_text, word_of}

-- what stands between the parentheses of a command

unfoldable pub permute_at : List ℕ → List (List ℕ) → List Token → Read Command
permute_at bytes params ts = do
  statement ← arg_comma_at bytes params ts
  order ← list_at bytes params statement.1
  Ok (commands.Permute statement.0 order.0, order.1)

unfoldable pub skew_at : List ℕ → List (List ℕ) → List Token → Read Command
skew_at bytes params ts = do
  statements ← list_comma_at bytes params ts
  level ← arg_comma_at bytes params statements.1
  amounts ← list_at bytes params level.1
  Ok (commands.Skew statements.0 level.0 amounts.0, amounts.1)

unfoldable pub shift_at : List ℕ → List (List ℕ) → List Token → Read Command
shift_at bytes params ts = do
  statements ← list_comma_at bytes params ts
  level ← arg_comma_at bytes params statements.1
  amount ← arg_at bytes params level.1
  Ok (commands.Shift statements.0 level.0 amount.0, amount.1)

unfoldable pub tile_at : List ℕ → List (List ℕ) → List Token → Read Command
tile_at bytes params ts = do
  statement ← arg_comma_at bytes params ts
  level ← arg_comma_at bytes params statement.1
  size ← arg_comma_at bytes params level.1
  outer ← arg_at bytes params size.1
  Ok (commands.Tile statement.0 level.0 size.0 outer.0, outer.1)

unfoldable pub unroll_at : List ℕ → List (List ℕ) → List Token → Read Command
unroll_at bytes params ts = do
  statement ← arg_comma_at bytes params ts
  level ← arg_comma_at bytes params statement.1
  amount ← arg_at bytes params level.1
  Ok (commands.Unroll statement.0 level.0 amount.0, amount.1)

unfoldable pub split_at : List ℕ → List (List ℕ) → List Token → Read Command
split_at bytes params ts = do
  statement ← arg_comma_at bytes params ts
  level ← arg_comma_at bytes params statement.1
  condition ← condition_at bytes purposes.Split params level.1
  Ok (commands.Split statement.0 level.0 condition.0, condition.1)

unfoldable pub peel_at : List ℕ → List (List ℕ) → List Token → Read Command
peel_at bytes params ts = do
  statement ← arg_comma_at bytes params ts
  level ← arg_comma_at bytes params statement.1
  count ← arg_at bytes params level.1
  Ok (commands.Peel statement.0 level.0 count.0, count.1)

unfoldable pub fuse_at : List ℕ → List (List ℕ) → List Token → Read Command
fuse_at bytes params ts = do
  statements ← list_comma_at bytes params ts
  level ← arg_at bytes params statements.1
  Ok (commands.Fuse statements.0 level.0, level.1)

unfoldable pub distribute_at : List ℕ → List (List ℕ) → List Token → Read Command
distribute_at bytes params ts = do
  statements ← list_comma_at bytes params ts
  level ← arg_at bytes params statements.1
  Ok (commands.Distribute statements.0 level.0, level.1)

unfoldable pub datacopy_at : List ℕ → List (List ℕ) → List Token → Read Command
datacopy_at bytes params ts = do
  statement ← arg_comma_at bytes params ts
  level ← arg_comma_at bytes params statement.1
  array ← name_at bytes R1 level.1
  Ok (commands.Datacopy statement.0 level.0 array.0, array.1)

abbrev pub arguments_at : Word → List ℕ → List (List ℕ) → List Token → Read Command
arguments_at words.Permute = permute_at
arguments_at words.Skew = skew_at
arguments_at words.Shift = shift_at
arguments_at words.Tile = tile_at
arguments_at words.Unroll = unroll_at
arguments_at words.Split = split_at
arguments_at words.Peel = peel_at
arguments_at words.Fuse = fuse_at
arguments_at words.Distribute = distribute_at
arguments_at words.Datacopy = datacopy_at
arguments_at words.Accumulate = λ bytes params ts. Ok (commands.Accumulate, ts)

abbrev pub known_word : ℕ → Option Word → Result Word ParseError
known_word at (Some w) = Ok w
known_word at None = refused R2 at

-- One command more. A 33rd one is refused at its word.
unfoldable pub command_at : List ℕ → List (List ℕ) → List Command → List Token → Read (List Command)
command_at bytes params found ts = do
  name ← name_at bytes R1 ts
  word ← known_word (place bytes ts) (word_of name.0)
  few ← guarded (nat_lt (length found) most_commands) R4 (place bytes ts) (λ _. Ok word)
  paren ← sign_at bytes R1 signs.LeftParen name.1
  command ← arguments_at few bytes params paren
  close ← sign_at bytes R1 signs.RightParen command.1
  rest ← sign_at bytes R1 signs.Semicolon close
  Ok (found ++ command.0 ∷ [], rest)

-- the next token isn't the closing brace
abbrev pub is_more : List ℕ → List Token → Bool
is_more bytes ts = not (next_is bytes signs.RightBrace ts)

-- the commands up to the closing brace
unfoldable pub commands_at : List ℕ → List (List ℕ) → List Token → Read (List Command)
commands_at bytes params ts = repeated (is_more bytes) (command_at bytes params) (most_commands + 1) [] ts

-- the next token is `require`
abbrev pub begins_require : List ℕ → List Token → Bool
begins_require bytes ts = if_on (seen bytes ts) (bytes_eq (text_at bytes ts) require_text)

-- One condition more between parameters. A 9th one is refused at its word.
unfoldable pub require_at : List ℕ → List (List ℕ) → List Cond → List Token → Read (List Cond)
require_at bytes params found ts = do
  name ← name_at bytes R1 ts
  few ← guarded (nat_lt (length found) most_conditions) R4 (place bytes ts) (λ _. Ok name.1)
  paren ← sign_at bytes R1 signs.LeftParen few
  condition ← condition_at bytes purposes.Require params paren
  close ← sign_at bytes R1 signs.RightParen condition.1
  rest ← sign_at bytes R1 signs.Semicolon close
  Ok (found ++ condition.0 ∷ [], rest)

-- the conditions before the commands
unfoldable pub requires_at : List ℕ → List (List ℕ) → List Token → Read (List Cond)
requires_at bytes params ts = repeated (begins_require bytes) (require_at bytes params) (most_conditions + 1) [] ts

-- The commands of a recipe that was read, and the conditions before them: all of them fit, and there are not too many.
use Rattle.std.proofs.Common.{◌≡◌, ℕ, ◌+◌, ◌<◌, ◌≤◌, pos, true, ◌&&◌, nat_lt, List, [], ◌∷◌, ◌++◌, length, Option, Some, None, Ok, length-append, refl, arith}
use Rattle.std.specs.List.{list_all}
use Rattle.std.proofs.lemmas.Bool.{and_from, ltb-true}
use Rattle.std.proofs.lemmas.List.Folds.{list_all-append}
use Rattle.ch_lex.specs.declared.error.Code2.TheVariants.{R1, R2, R4}
use Rattle.ch_lex.specs.declared.token.Sign.TheVariants as signs
use Rattle.ch_lex.specs.declared.token.Token.{Token}
use Rattle.ch_nestparse.specs.Read.{place}
use Rattle.ch_nestparse.proofs.Placed.{Placed, placed_bind, placed_err, placed_ok}
use Rattle.ch_script.specs.Commands.{arguments_at, begins_require, command_at, commands_at, datacopy_at, distribute_at, fuse_at, is_more, known_word, peel_at, permute_at, require_at, requires_at, shift_at, skew_at, split_at, tile_at, unroll_at}
use Rattle.ch_script.specs.Limits.{most_commands, most_conditions, most_terms}
use Rattle.ch_script.specs.Recipes.{arg_fits, args_fit, command_fits, condition_fits}
use Rattle.ch_script.specs.Words.{word_of}
use Rattle.ch_script.specs.declared.recipe.Command.{Command}
use Rattle.ch_script.specs.declared.recipe.Command.TheVariants as commands
use Rattle.ch_script.specs.declared.recipe.Cond.{Cond}
use Rattle.ch_script.specs.declared.recipe.Purpose.TheVariants as purposes
use Rattle.ch_script.specs.declared.word.Word.{Word}
use Rattle.ch_script.specs.declared.word.Word.TheVariants as words
use Rattle.ch_script.proofs.ArgumentsFit.{arg_comma_left, arg_left, list_comma_left, list_left}
use Rattle.ch_script.proofs.ConditionsFit.{condition_left}
use Rattle.ch_script.proofs.Left.{Leaves, Left, left_place, name_left, placed_if, repeated_left, sign_left}

module _ (bytes : List ℕ) (ps : List (List ℕ)) (n : ℕ) (small : n ≤ most_terms) where
  abbrev CommandFits : Command → Type 0
  CommandFits c = command_fits (length ps) c ≡ true

  permute_left : (ts : List Token) → Left bytes n ts → Leaves bytes CommandFits n (permute_at bytes ps ts)
  unfolding permute_at
  permute_left ts h =
      placed_bind bytes (arg_comma_left bytes ps n ts h) (λ statement a.
      placed_bind bytes (list_left bytes ps n statement.1 a.1) (λ order b.
      placed_ok bytes (λ x. CommandFits x.0 × Left bytes n x.1) (commands.Permute statement.0 order.0, order.1) ((and_from (arg_fits (length ps) statement.0) (args_fit (length ps) order.0) a.0 b.0), b.1)))

  skew_left : (ts : List Token) → Left bytes n ts → Leaves bytes CommandFits n (skew_at bytes ps ts)
  unfolding skew_at
  skew_left ts h =
      placed_bind bytes (list_comma_left bytes ps n ts h) (λ statements a.
      placed_bind bytes (arg_comma_left bytes ps n statements.1 a.1) (λ level b.
      placed_bind bytes (list_left bytes ps n level.1 b.1) (λ amounts c.
      placed_ok bytes (λ x. CommandFits x.0 × Left bytes n x.1) (commands.Skew statements.0 level.0 amounts.0, amounts.1) ((and_from (args_fit (length ps) statements.0) ((arg_fits (length ps) level.0 && args_fit (length ps) amounts.0)) a.0 (and_from (arg_fits (length ps) level.0) (args_fit (length ps) amounts.0) b.0 c.0)), c.1))))

  shift_left : (ts : List Token) → Left bytes n ts → Leaves bytes CommandFits n (shift_at bytes ps ts)
  unfolding shift_at
  shift_left ts h =
      placed_bind bytes (list_comma_left bytes ps n ts h) (λ statements a.
      placed_bind bytes (arg_comma_left bytes ps n statements.1 a.1) (λ level b.
      placed_bind bytes (arg_left bytes ps n level.1 b.1) (λ amount c.
      placed_ok bytes (λ x. CommandFits x.0 × Left bytes n x.1) (commands.Shift statements.0 level.0 amount.0, amount.1) ((and_from (args_fit (length ps) statements.0) ((arg_fits (length ps) level.0 && arg_fits (length ps) amount.0)) a.0 (and_from (arg_fits (length ps) level.0) (arg_fits (length ps) amount.0) b.0 c.0)), c.1))))

  tile_left : (ts : List Token) → Left bytes n ts → Leaves bytes CommandFits n (tile_at bytes ps ts)
  unfolding tile_at
  tile_left ts h =
      placed_bind bytes (arg_comma_left bytes ps n ts h) (λ statement a.
      placed_bind bytes (arg_comma_left bytes ps n statement.1 a.1) (λ level b.
      placed_bind bytes (arg_comma_left bytes ps n level.1 b.1) (λ size c.
      placed_bind bytes (arg_left bytes ps n size.1 c.1) (λ outer d.
      placed_ok bytes (λ x. CommandFits x.0 × Left bytes n x.1) (commands.Tile statement.0 level.0 size.0 outer.0, outer.1) ((and_from (arg_fits (length ps) statement.0) ((arg_fits (length ps) level.0 && (arg_fits (length ps) size.0 && arg_fits (length ps) outer.0))) a.0 (and_from (arg_fits (length ps) level.0) ((arg_fits (length ps) size.0 && arg_fits (length ps) outer.0)) b.0 (and_from (arg_fits (length ps) size.0) (arg_fits (length ps) outer.0) c.0 d.0))), d.1)))))

  unroll_left : (ts : List Token) → Left bytes n ts → Leaves bytes CommandFits n (unroll_at bytes ps ts)
  unfolding unroll_at
  unroll_left ts h =
      placed_bind bytes (arg_comma_left bytes ps n ts h) (λ statement a.
      placed_bind bytes (arg_comma_left bytes ps n statement.1 a.1) (λ level b.
      placed_bind bytes (arg_left bytes ps n level.1 b.1) (λ amount c.
      placed_ok bytes (λ x. CommandFits x.0 × Left bytes n x.1) (commands.Unroll statement.0 level.0 amount.0, amount.1) ((and_from (arg_fits (length ps) statement.0) ((arg_fits (length ps) level.0 && arg_fits (length ps) amount.0)) a.0 (and_from (arg_fits (length ps) level.0) (arg_fits (length ps) amount.0) b.0 c.0)), c.1))))

  split_left : (ts : List Token) → Left bytes n ts → Leaves bytes CommandFits n (split_at bytes ps ts)
  unfolding split_at
  split_left ts h =
      placed_bind bytes (arg_comma_left bytes ps n ts h) (λ statement a.
      placed_bind bytes (arg_comma_left bytes ps n statement.1 a.1) (λ level b.
      placed_bind bytes (condition_left bytes purposes.Split ps n level.1 small b.1) (λ condition c.
      placed_ok bytes (λ x. CommandFits x.0 × Left bytes n x.1) (commands.Split statement.0 level.0 condition.0, condition.1) ((and_from (arg_fits (length ps) statement.0) ((arg_fits (length ps) level.0 && condition_fits purposes.Split (length ps) condition.0)) a.0 (and_from (arg_fits (length ps) level.0) (condition_fits purposes.Split (length ps) condition.0) b.0 c.0)), c.1))))

  peel_left : (ts : List Token) → Left bytes n ts → Leaves bytes CommandFits n (peel_at bytes ps ts)
  unfolding peel_at
  peel_left ts h =
      placed_bind bytes (arg_comma_left bytes ps n ts h) (λ statement a.
      placed_bind bytes (arg_comma_left bytes ps n statement.1 a.1) (λ level b.
      placed_bind bytes (arg_left bytes ps n level.1 b.1) (λ count c.
      placed_ok bytes (λ x. CommandFits x.0 × Left bytes n x.1) (commands.Peel statement.0 level.0 count.0, count.1) ((and_from (arg_fits (length ps) statement.0) ((arg_fits (length ps) level.0 && arg_fits (length ps) count.0)) a.0 (and_from (arg_fits (length ps) level.0) (arg_fits (length ps) count.0) b.0 c.0)), c.1))))

  fuse_left : (ts : List Token) → Left bytes n ts → Leaves bytes CommandFits n (fuse_at bytes ps ts)
  unfolding fuse_at
  fuse_left ts h =
      placed_bind bytes (list_comma_left bytes ps n ts h) (λ statements a.
      placed_bind bytes (arg_left bytes ps n statements.1 a.1) (λ level b.
      placed_ok bytes (λ x. CommandFits x.0 × Left bytes n x.1) (commands.Fuse statements.0 level.0, level.1) ((and_from (args_fit (length ps) statements.0) (arg_fits (length ps) level.0) a.0 b.0), b.1)))

  distribute_left : (ts : List Token) → Left bytes n ts → Leaves bytes CommandFits n (distribute_at bytes ps ts)
  unfolding distribute_at
  distribute_left ts h =
      placed_bind bytes (list_comma_left bytes ps n ts h) (λ statements a.
      placed_bind bytes (arg_left bytes ps n statements.1 a.1) (λ level b.
      placed_ok bytes (λ x. CommandFits x.0 × Left bytes n x.1) (commands.Distribute statements.0 level.0, level.1) ((and_from (args_fit (length ps) statements.0) (arg_fits (length ps) level.0) a.0 b.0), b.1)))

  datacopy_left : (ts : List Token) → Left bytes n ts → Leaves bytes CommandFits n (datacopy_at bytes ps ts)
  unfolding datacopy_at
  datacopy_left ts h =
      placed_bind bytes (arg_comma_left bytes ps n ts h) (λ statement a.
      placed_bind bytes (arg_comma_left bytes ps n statement.1 a.1) (λ level b.
      placed_bind bytes (name_left bytes R1 n level.1 b.1) (λ array c.
      placed_ok bytes (λ x. CommandFits x.0 × Left bytes n x.1) (commands.Datacopy statement.0 level.0 array.0, array.1) ((and_from (arg_fits (length ps) statement.0) (arg_fits (length ps) level.0) a.0 b.0), c.1))))

  arguments_left : (word : Word) (ts : List Token) → Left bytes n ts → Leaves bytes CommandFits n (arguments_at word bytes ps ts)
  arguments_left words.Permute ts h = permute_left ts h
  arguments_left words.Skew ts h = skew_left ts h
  arguments_left words.Shift ts h = shift_left ts h
  arguments_left words.Tile ts h = tile_left ts h
  arguments_left words.Unroll ts h = unroll_left ts h
  arguments_left words.Split ts h = split_left ts h
  arguments_left words.Peel ts h = peel_left ts h
  arguments_left words.Fuse ts h = fuse_left ts h
  arguments_left words.Distribute ts h = distribute_left ts h
  arguments_left words.Datacopy ts h = datacopy_left ts h
  arguments_left words.Accumulate ts h = placed_ok bytes (λ x. CommandFits x.0 × Left bytes n x.1) (commands.Accumulate, ts) (refl, h)

  word_left : (at : ℕ) (o : Option Word) → at ≤ length bytes → Placed bytes (λ w. Unit {0}) (known_word at o)
  word_left at (Some w) l = placed_ok bytes (λ w. Unit {0}) w tt
  word_left at None l = placed_err bytes (λ w. Unit {0}) R2 at (pos 0) l

  abbrev pub Commands : List Command → Type 0
  Commands found = (length found ≤ most_commands) × (list_all (command_fits (length ps)) found ≡ true)

  command_left : (found : List Command) (ts : List Token) → Commands found × Left bytes n ts → Leaves bytes Commands n (command_at bytes ps found ts)
  unfolding command_at
  command_left found ts h =
      let here = left_place bytes n ts h.1 in
      placed_bind bytes (name_left bytes R1 n ts h.1) (λ name a.
      placed_bind bytes (word_left (place bytes ts) (word_of name.0) here) (λ word b.
      placed_bind bytes (placed_if bytes (nat_lt (length found) most_commands) R4 (place bytes ts) (λ _. Ok word) here (λ few. placed_ok bytes (λ w. length found < most_commands) word (ltb-true (length found) most_commands few))) (λ few c.
      placed_bind bytes (sign_left bytes R1 signs.LeftParen n name.1 a.1) (λ paren d.
      placed_bind bytes (arguments_left few paren d) (λ command e.
      placed_bind bytes (sign_left bytes R1 signs.RightParen n command.1 e.1) (λ close f.
      placed_bind bytes (sign_left bytes R1 signs.Semicolon n close f) (λ rest g.
      let more : length (found ++ command.0 ∷ []) ≡ length found + 1 = length-append found (command.0 ∷ []) in
      let fit : list_all (command_fits (length ps)) (found ++ command.0 ∷ []) ≡ true = rw (list_all-append, h.0.1, e.0) refl in
      placed_ok bytes (λ x. Commands x.0 × Left bytes n x.1) (found ++ command.0 ∷ [], rest) ((omega (arith, c, more), fit), g))))))))

  pub commands_left : (ts : List Token) → Left bytes n ts → Leaves bytes Commands n (commands_at bytes ps ts)
  unfolding commands_at
  commands_left ts h =
      repeated_left bytes (λ found us. Commands found × Left bytes n us) (is_more bytes) (command_at bytes ps) command_left (most_commands + 1) [] ts
      ((omega arith, refl), h)

  abbrev pub Conditions : List Cond → Type 0
  Conditions found = (length found ≤ most_conditions) × (list_all (condition_fits purposes.Require (length ps)) found ≡ true)

  require_left : (found : List Cond) (ts : List Token) → Conditions found × Left bytes n ts → Leaves bytes Conditions n (require_at bytes ps found ts)
  unfolding require_at
  require_left found ts h =
      let here = left_place bytes n ts h.1 in
      placed_bind bytes (name_left bytes R1 n ts h.1) (λ name a.
      placed_bind bytes (placed_if bytes (nat_lt (length found) most_conditions) R4 (place bytes ts) (λ _. Ok name.1) here (λ few. placed_ok bytes (λ us. (length found < most_conditions) × Left bytes n us) name.1 (ltb-true (length found) most_conditions few, a.1))) (λ few c.
      placed_bind bytes (sign_left bytes R1 signs.LeftParen n few c.1) (λ paren d.
      placed_bind bytes (condition_left bytes purposes.Require ps n paren small d) (λ condition e.
      placed_bind bytes (sign_left bytes R1 signs.RightParen n condition.1 e.1) (λ close f.
      placed_bind bytes (sign_left bytes R1 signs.Semicolon n close f) (λ rest g.
      let below = c.0 in
      let more : length (found ++ condition.0 ∷ []) ≡ length found + 1 = length-append found (condition.0 ∷ []) in
      let fit : list_all (condition_fits purposes.Require (length ps)) (found ++ condition.0 ∷ []) ≡ true = rw (list_all-append, h.0.1, e.0) refl in
      placed_ok bytes (λ x. Conditions x.0 × Left bytes n x.1) (found ++ condition.0 ∷ [], rest) ((omega (arith, below, more), fit), g)))))))

  pub requires_left : (ts : List Token) → Left bytes n ts → Leaves bytes Conditions n (requires_at bytes ps ts)
  unfolding requires_at
  requires_left ts h =
      repeated_left bytes (λ found us. Conditions found × Left bytes n us) (begins_require bytes) (require_at bytes ps) require_left (most_conditions + 1) [] ts
      ((omega arith, refl), h)

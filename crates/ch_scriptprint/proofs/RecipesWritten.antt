-- What was read of a text can be written: commands, parameters and whole recipes.
use Rattle.std.proofs.Common.{◌≡◌, ℕ, ◌-◌, true, ◌&&◌, nat_lt, List, [], ◌∷◌, ◌++◌, length, drop, Result, Ok, Err, refl, sym, subst, append_assoc, append-nil, arith}
use Rattle.std.specs.Bool.{IsTrue}
use Rattle.std.specs.List.{list_all}
use Rattle.std.proofs.lemmas.Bool.{and_from, and_parts}
use Rattle.std.proofs.lemmas.List.Folds.{list_all-append}
use Rattle.ch_lex.specs.Cut.{IsCut}
use Rattle.ch_lex.specs.declared.error.Code2.TheVariants.{R1, R3, R4}
use Rattle.ch_lex.specs.declared.error.ParseError.{ParseError}
use Rattle.ch_lex.specs.declared.keyword.Keyword.TheVariants as words
use Rattle.ch_lex.specs.declared.token.Sign.TheVariants as signs
use Rattle.ch_lex.specs.declared.token.Token.{Token}
use Rattle.ch_nestparse.specs.Read.{◌>>=◌, guarded, next_is, place, repeated, sign_at}
use Rattle.ch_nestparse.specs.Spelling.{is_name}
use Rattle.ch_nestparse.proofs.Posts.{Post, post_bind, post_choose, post_guarded, post_ok}
use Rattle.ch_script.proofs.Left.{Left, keyword_left, left_after, left_drop, name_left, sign_left}
use Rattle.ch_script.specs.Commands.{arguments_at, begins_require, command_at, commands_at, datacopy_at, distribute_at, fuse_at, is_more, known_word, peel_at, permute_at, require_at, requires_at, shift_at, skew_at, split_at, tile_at, unroll_at}
use Rattle.ch_script.specs.Limits.{most_commands, most_conditions, most_params}
use Rattle.ch_script.specs.Names.{is_free, more_param_at, next_is_comma, param_at, params_at}
use Rattle.ch_script.specs.Recipes.{RecipeParts, recipe_of}
use Rattle.ch_script.specs.Sections.{recipe_at, section_at}
use Rattle.ch_script.specs.Words.{word_of}
use Rattle.ch_script.specs.declared.recipe.Command.{Command}
use Rattle.ch_script.specs.declared.recipe.Command.TheVariants.{Permute, Skew, Shift, Tile, Unroll, Split, Peel, Fuse, Distribute, Datacopy, Accumulate}
use Rattle.ch_script.specs.declared.recipe.Cond.{Cond}
use Rattle.ch_script.specs.declared.recipe.Purpose.TheVariants as purposes
use Rattle.ch_script.specs.declared.section.ParsedRecipe.{ParsedRecipe}
use Rattle.ch_script.specs.declared.word.Word.{Word}
use Rattle.ch_script.specs.declared.word.Word.TheVariants as command_words
use Rattle.ch_scriptprint.specs.Printable.{are_params, arg_written, args_written, command_written, condition_written, is_printable}
use Rattle.ch_scriptprint.proofs.RecipeRead.{parsed_of}
use Rattle.ch_scriptprint.proofs.Written.{Reads, arg_comma_reads, arg_reads, condition_reads, list_comma_reads, list_reads, repeated_keeps}

module _ (bytes : List ℕ) (ps : List (List ℕ)) (n : ℕ) where
  abbrev CommandWritten : Command → Type 0
  CommandWritten c = command_written c ≡ true

  permute_reads : (ts : List Token) → Left bytes n ts → Reads bytes n CommandWritten (permute_at bytes ps ts)
  unfolding permute_at
  permute_reads ts h =
      post_bind (arg_comma_reads bytes n ps ts h) (λ x0 p0.
      post_bind (list_reads bytes n ps x0.1 p0.1) (λ x1 p1.
      post_ok (λ x. CommandWritten x.0 × Left bytes n x.1) (Permute x0.0 x1.0, x1.1) (and_from (arg_written x0.0) (args_written x1.0) p0.0 p1.0, p1.1)))

  skew_reads : (ts : List Token) → Left bytes n ts → Reads bytes n CommandWritten (skew_at bytes ps ts)
  unfolding skew_at
  skew_reads ts h =
      post_bind (list_comma_reads bytes n ps ts h) (λ x0 p0.
      post_bind (arg_comma_reads bytes n ps x0.1 p0.1) (λ x1 p1.
      post_bind (list_reads bytes n ps x1.1 p1.1) (λ x2 p2.
      post_ok (λ x. CommandWritten x.0 × Left bytes n x.1) (Skew x0.0 x1.0 x2.0, x2.1) (and_from (args_written x0.0) (arg_written x1.0 && args_written x2.0) p0.0 (and_from (arg_written x1.0) (args_written x2.0) p1.0 p2.0), p2.1))))

  shift_reads : (ts : List Token) → Left bytes n ts → Reads bytes n CommandWritten (shift_at bytes ps ts)
  unfolding shift_at
  shift_reads ts h =
      post_bind (list_comma_reads bytes n ps ts h) (λ x0 p0.
      post_bind (arg_comma_reads bytes n ps x0.1 p0.1) (λ x1 p1.
      post_bind (arg_reads bytes n ps x1.1 p1.1) (λ x2 p2.
      post_ok (λ x. CommandWritten x.0 × Left bytes n x.1) (Shift x0.0 x1.0 x2.0, x2.1) (and_from (args_written x0.0) (arg_written x1.0 && arg_written x2.0) p0.0 (and_from (arg_written x1.0) (arg_written x2.0) p1.0 p2.0), p2.1))))

  tile_reads : (ts : List Token) → Left bytes n ts → Reads bytes n CommandWritten (tile_at bytes ps ts)
  unfolding tile_at
  tile_reads ts h =
      post_bind (arg_comma_reads bytes n ps ts h) (λ x0 p0.
      post_bind (arg_comma_reads bytes n ps x0.1 p0.1) (λ x1 p1.
      post_bind (arg_comma_reads bytes n ps x1.1 p1.1) (λ x2 p2.
      post_bind (arg_reads bytes n ps x2.1 p2.1) (λ x3 p3.
      post_ok (λ x. CommandWritten x.0 × Left bytes n x.1) (Tile x0.0 x1.0 x2.0 x3.0, x3.1) (and_from (arg_written x0.0) (arg_written x1.0 && (arg_written x2.0 && arg_written x3.0)) p0.0 (and_from (arg_written x1.0) (arg_written x2.0 && arg_written x3.0) p1.0 (and_from (arg_written x2.0) (arg_written x3.0) p2.0 p3.0)), p3.1)))))

  unroll_reads : (ts : List Token) → Left bytes n ts → Reads bytes n CommandWritten (unroll_at bytes ps ts)
  unfolding unroll_at
  unroll_reads ts h =
      post_bind (arg_comma_reads bytes n ps ts h) (λ x0 p0.
      post_bind (arg_comma_reads bytes n ps x0.1 p0.1) (λ x1 p1.
      post_bind (arg_reads bytes n ps x1.1 p1.1) (λ x2 p2.
      post_ok (λ x. CommandWritten x.0 × Left bytes n x.1) (Unroll x0.0 x1.0 x2.0, x2.1) (and_from (arg_written x0.0) (arg_written x1.0 && arg_written x2.0) p0.0 (and_from (arg_written x1.0) (arg_written x2.0) p1.0 p2.0), p2.1))))

  split_reads : (ts : List Token) → Left bytes n ts → Reads bytes n CommandWritten (split_at bytes ps ts)
  unfolding split_at
  split_reads ts h =
      post_bind (arg_comma_reads bytes n ps ts h) (λ x0 p0.
      post_bind (arg_comma_reads bytes n ps x0.1 p0.1) (λ x1 p1.
      post_bind (condition_reads bytes n purposes.Split ps x1.1 p1.1) (λ x2 p2.
      post_ok (λ x. CommandWritten x.0 × Left bytes n x.1) (Split x0.0 x1.0 x2.0, x2.1) (and_from (arg_written x0.0) (arg_written x1.0 && condition_written x2.0) p0.0 (and_from (arg_written x1.0) (condition_written x2.0) p1.0 p2.0), p2.1))))

  peel_reads : (ts : List Token) → Left bytes n ts → Reads bytes n CommandWritten (peel_at bytes ps ts)
  unfolding peel_at
  peel_reads ts h =
      post_bind (arg_comma_reads bytes n ps ts h) (λ x0 p0.
      post_bind (arg_comma_reads bytes n ps x0.1 p0.1) (λ x1 p1.
      post_bind (arg_reads bytes n ps x1.1 p1.1) (λ x2 p2.
      post_ok (λ x. CommandWritten x.0 × Left bytes n x.1) (Peel x0.0 x1.0 x2.0, x2.1) (and_from (arg_written x0.0) (arg_written x1.0 && arg_written x2.0) p0.0 (and_from (arg_written x1.0) (arg_written x2.0) p1.0 p2.0), p2.1))))

  fuse_reads : (ts : List Token) → Left bytes n ts → Reads bytes n CommandWritten (fuse_at bytes ps ts)
  unfolding fuse_at
  fuse_reads ts h =
      post_bind (list_comma_reads bytes n ps ts h) (λ x0 p0.
      post_bind (arg_reads bytes n ps x0.1 p0.1) (λ x1 p1.
      post_ok (λ x. CommandWritten x.0 × Left bytes n x.1) (Fuse x0.0 x1.0, x1.1) (and_from (args_written x0.0) (arg_written x1.0) p0.0 p1.0, p1.1)))

  distribute_reads : (ts : List Token) → Left bytes n ts → Reads bytes n CommandWritten (distribute_at bytes ps ts)
  unfolding distribute_at
  distribute_reads ts h =
      post_bind (list_comma_reads bytes n ps ts h) (λ x0 p0.
      post_bind (arg_reads bytes n ps x0.1 p0.1) (λ x1 p1.
      post_ok (λ x. CommandWritten x.0 × Left bytes n x.1) (Distribute x0.0 x1.0, x1.1) (and_from (args_written x0.0) (arg_written x1.0) p0.0 p1.0, p1.1)))

  datacopy_reads : (ts : List Token) → Left bytes n ts → Reads bytes n CommandWritten (datacopy_at bytes ps ts)
  unfolding datacopy_at
  datacopy_reads ts h =
      post_bind (arg_comma_reads bytes n ps ts h) (λ x0 p0.
      post_bind (arg_comma_reads bytes n ps x0.1 p0.1) (λ x1 p1.
      post_bind ((name_left bytes R1 n x1.1 p1.1).0) (λ x2 p2.
      post_ok (λ x. CommandWritten x.0 × Left bytes n x.1) (Datacopy x0.0 x1.0 x2.0, x2.1) (and_from (arg_written x0.0) (arg_written x1.0 && is_name x2.0) p0.0 (and_from (arg_written x1.0) (is_name x2.0) p1.0 p2.0), p2.1))))

  arguments_read : (w : Word) (ts : List Token) → Left bytes n ts → Reads bytes n CommandWritten (arguments_at w bytes ps ts)
  arguments_read command_words.Permute ts h = permute_reads ts h
  arguments_read command_words.Skew ts h = skew_reads ts h
  arguments_read command_words.Shift ts h = shift_reads ts h
  arguments_read command_words.Tile ts h = tile_reads ts h
  arguments_read command_words.Unroll ts h = unroll_reads ts h
  arguments_read command_words.Split ts h = split_reads ts h
  arguments_read command_words.Peel ts h = peel_reads ts h
  arguments_read command_words.Fuse ts h = fuse_reads ts h
  arguments_read command_words.Distribute ts h = distribute_reads ts h
  arguments_read command_words.Datacopy ts h = datacopy_reads ts h
  arguments_read command_words.Accumulate ts h = post_ok (λ x. CommandWritten x.0 × Left bytes n x.1) (Accumulate, ts) (refl, h)

  abbrev Commands : List Command → Type 0
  Commands found = list_all command_written found ≡ true

  command_reads : (found : List Command) (ts : List Token) → Commands found × Left bytes n ts → Reads bytes n Commands (command_at bytes ps found ts)
  unfolding command_at
  command_reads found ts h =
      post_bind ((name_left bytes R1 n ts h.1).0) (λ name a.
      post_bind {A = Word} {P = λ w. Unit {0}} {r = known_word (place bytes ts) (word_of name.0)} (λ w e. tt) (λ word b.
      post_bind {A = Word} {P = λ w. Unit {0}} {r = guarded (nat_lt (length found) most_commands) R4 (place bytes ts) (λ _. Ok word)} (λ w e. tt) (λ few c.
      post_bind ((sign_left bytes R1 signs.LeftParen n name.1 a.1).0) (λ paren d.
      post_bind (arguments_read few paren d) (λ command e.
      post_bind ((sign_left bytes R1 signs.RightParen n command.1 e.1).0) (λ close f.
      post_bind ((sign_left bytes R1 signs.Semicolon n close f).0) (λ rest g.
      post_ok (λ x. Commands x.0 × Left bytes n x.1) (found ++ command.0 ∷ [], rest) (rw (list_all-append, h.0, e.0) refl, g))))))))

  commands_read : (ts : List Token) → Left bytes n ts → Reads bytes n Commands (commands_at bytes ps ts)
  unfolding commands_at
  commands_read ts h = repeated_keeps (λ x. Commands x.0 × Left bytes n x.1) (is_more bytes) (command_at bytes ps) command_reads 33 [] ts (refl, h)

  abbrev Conditions : List Cond → Type 0
  Conditions found = list_all condition_written found ≡ true

  require_reads : (found : List Cond) (ts : List Token) → Conditions found × Left bytes n ts → Reads bytes n Conditions (require_at bytes ps found ts)
  unfolding require_at
  require_reads found ts h =
      post_bind ((name_left bytes R1 n ts h.1).0) (λ name a.
      post_bind {P = Left bytes n} (post_guarded (nat_lt (length found) most_conditions) R4 (place bytes ts) (λ _. Ok name.1) (λ _. post_ok (Left bytes n) name.1 a.1)) (λ few c.
      post_bind ((sign_left bytes R1 signs.LeftParen n few c).0) (λ paren d.
      post_bind (condition_reads bytes n purposes.Require ps paren d) (λ condition e.
      post_bind ((sign_left bytes R1 signs.RightParen n condition.1 e.1).0) (λ close f.
      post_bind ((sign_left bytes R1 signs.Semicolon n close f).0) (λ rest g.
      post_ok (λ x. Conditions x.0 × Left bytes n x.1) (found ++ condition.0 ∷ [], rest) (rw (list_all-append, h.0, e.0) refl, g)))))))

  requires_read : (ts : List Token) → Left bytes n ts → Reads bytes n Conditions (requires_at bytes ps ts)
  unfolding requires_at
  requires_read ts h = repeated_keeps (λ x. Conditions x.0 × Left bytes n x.1) (begins_require bytes) (require_at bytes ps) require_reads 9 [] ts (refl, h)

-- one parameter more

params_step : (before ps : List (List ℕ)) (name : List ℕ) → are_params before ps ≡ true → is_name name ≡ true → is_free name (before ++ ps) ≡ true → are_params before (ps ++ name ∷ []) ≡ true
params_step before [] name h named free =
    let whole : is_free name before ≡ true = subst (λ (all : List (List ℕ)). is_free name all ≡ true) (append-nil before) free in
    and_from (is_name name) (is_free name before && true) named (and_from (is_free name before) true whole refl)
params_step before (p ∷ ps) name h named free =
    let parts = and_parts (is_name p) (is_free p before && are_params (before ++ p ∷ []) ps) h in
    let more = and_parts (is_free p before) (are_params (before ++ p ∷ []) ps) parts.1 in
    let all : is_free name ((before ++ p ∷ []) ++ ps) ≡ true = subst (λ (qs : List (List ℕ)). is_free name qs ≡ true) (sym (append_assoc before (p ∷ []) ps)) free in
    and_from (is_name p) (is_free p before && are_params (before ++ p ∷ []) (ps ++ name ∷ [])) parts.0
    (and_from (is_free p before) (are_params (before ++ p ∷ []) (ps ++ name ∷ [])) more.0 (params_step (before ++ p ∷ []) ps name more.1 named all))

module _ (bytes : List ℕ) (n : ℕ) where
  abbrev Params : List (List ℕ) → Type 0
  Params ps = are_params [] ps ≡ true

  param_reads : (ps : List (List ℕ)) (ts : List Token) → Params ps × Left bytes n ts → Reads bytes n Params (param_at bytes ps ts)
  unfolding param_at
  param_reads ps ts h =
      post_bind ((name_left bytes R1 n ts h.1).0) (λ name a.
      post_bind {P = λ t. (is_name t ≡ true) × (is_free t ps ≡ true)} (post_guarded (is_free name.0 ps) R3 (place bytes ts) (λ _. Ok name.0) (λ e. post_ok (λ t. (is_name t ≡ true) × (is_free t ps ≡ true)) name.0 (a.0, e))) (λ free b.
      post_bind {P = λ t. (is_name t ≡ true) × (is_free t ps ≡ true)} (post_guarded (nat_lt (length ps) most_params) R4 (place bytes ts) (λ _. Ok free) (λ e. post_ok (λ t. (is_name t ≡ true) × (is_free t ps ≡ true)) free b)) (λ few c.
      post_ok (λ x. Params x.0 × Left bytes n x.1) (ps ++ few ∷ [], name.1) (params_step [] ps few h.0 c.0 c.1, a.1))))

  more_param_reads : (ps : List (List ℕ)) (ts : List Token) → Params ps × Left bytes n ts → Reads bytes n Params (more_param_at bytes ps ts)
  unfolding more_param_at
  more_param_reads ps ts h = post_bind ((sign_left bytes R1 signs.Comma n ts h.1).0) (λ rest a. param_reads ps rest (h.0, a))

  params_read : (ts : List Token) → Left bytes n ts → Reads bytes n Params (params_at bytes ts)
  unfolding params_at
  params_read ts h =
      post_choose (next_is bytes signs.RightParen ts) (λ _. Ok ([], drop 1 ts))
      (λ _. param_at bytes [] ts >>= λ first. repeated (next_is_comma bytes) (more_param_at bytes) most_params first.0 first.1 >>= λ all. sign_at bytes R1 signs.RightParen all.1 >>= λ rest. Ok (all.0, rest))
      (λ _. post_ok (λ x. Params x.0 × Left bytes n x.1) ([], drop 1 ts) (refl, left_drop bytes n ts h))
      (λ _. post_bind (param_reads [] ts (refl, h)) (λ first a.
      post_bind (repeated_keeps (λ x. Params x.0 × Left bytes n x.1) (next_is_comma bytes) (more_param_at bytes) more_param_reads most_params first.0 first.1 a) (λ all b.
      post_bind ((sign_left bytes R1 signs.RightParen n all.1 b.1).0) (λ rest c.
      post_ok (λ x. Params x.0 × Left bytes n x.1) (all.0, rest) (b.0, c)))))

-- a whole recipe

section_reads : (bytes : List ℕ) (n : ℕ) (ts : List Token) → Left bytes n ts → Post (λ x. is_printable x.0 ≡ true) (section_at bytes ts)
unfolding section_at
section_reads bytes n ts h =
    post_bind ((keyword_left bytes R1 words.Recipe n ts h).0) (λ word a.
    let m = n - 1 in
    post_bind ((name_left bytes R1 m word a.1).0) (λ name b.
    post_bind ((sign_left bytes R1 signs.LeftParen m name.1 b.1).0) (λ paren c.
    post_bind (params_read bytes m paren c) (λ ps d.
    post_bind ((sign_left bytes R1 signs.LeftBrace m ps.1 d.1).0) (λ inside e.
    post_bind (requires_read bytes ps.0 m inside e) (λ cs f.
    post_bind (commands_read bytes ps.0 m cs.1 f.1) (λ ks g.
    post_bind ((sign_left bytes R1 signs.RightBrace m ks.1 g.1).0) (λ rest k.
    post_ok (λ x. is_printable x.0 ≡ true) (recipe_of name.0 ps.0 cs.0 ks.0, rest)
    (and_from (is_name name.0) (are_params [] ps.0 && (list_all condition_written cs.0 && list_all command_written ks.0)) b.0
    (and_from (are_params [] ps.0) (list_all condition_written cs.0 && list_all command_written ks.0) d.0
    (and_from (list_all condition_written cs.0) (list_all command_written ks.0) f.0 g.0)))))))))))

from_section : (bytes : List ℕ) (tokens : List Token) (from : ℕ) (p : ParsedRecipe) (r : Result (RecipeParts × List Token) ParseError) → IsCut bytes 0 tokens → section_at bytes (drop from tokens) ≡ r
    → (r >>= λ x. Ok (parsed_of x.0 (length tokens - length x.1))) ≡ Ok p → is_printable p.recipe ≡ true
from_section bytes tokens from p (Err e) cut is h = absurd (cc)
from_section bytes tokens from p (Ok x) cut is h =
    let made = parsed_of x.0 (length tokens - length x.1) in
    let same : made ≡ p = cc in
    let left : Left bytes (length tokens) (drop from tokens) = left_after bytes from (length tokens) tokens (0, omega arith, cut, omega arith) in
    subst (λ (q : ParsedRecipe). is_printable q.recipe ≡ true) same (section_reads bytes (length tokens) (drop from tokens) left x is)

pub printable : (bytes : List ℕ) (tokens : List Token) (from : ℕ) (p : ParsedRecipe) → IsCut bytes 0 tokens → recipe_at bytes tokens from ≡ Ok p → IsTrue (is_printable p.recipe)
printable bytes tokens from p cut h = from_section bytes tokens from p (section_at bytes (drop from tokens)) cut refl h

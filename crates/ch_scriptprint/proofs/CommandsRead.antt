-- Printed commands are read.
use Rattle.std.proofs.Common.{◌≡◌, ℕ, ◌+◌, ◌<◌, ◌≤◌, true, false, not, ◌&&◌, nat_lt, List, [], ◌∷◌, ◌++◌, length, Some, Ok, refl, ap, ◌∙◌, append_assoc, length-append, lt-ltb, arith}
use Rattle.std.specs.Str.{bytes_eq}
use Rattle.std.specs.List.{flat_map, list_all}
use Rattle.std.proofs.lemmas.Bool.{and_parts}
use Rattle.ch_lex.specs.declared.error.Code2.TheVariants.{R1, R4}
use Rattle.ch_lex.specs.declared.token.Sign.TheVariants as signs
use Rattle.ch_lex.specs.declared.token.Token.{Token}
use Rattle.ch_nestparse.specs.declared.ahead.Look.{Look}
use Rattle.ch_nestparse.specs.Read.{guarded, if_on, is_sign, name_at, place, sign_at, text_at}
use Rattle.ch_nestprint.specs.declared.symbol.Symbol.{Symbol}
use Rattle.ch_nestprint.specs.declared.symbol.Symbol.TheVariants.{Name, Mark}
use Rattle.ch_nestprint.proofs.Cases.{Each}
use Rattle.ch_nestprint.proofs.NamesRead.{same_bytes}
use Rattle.ch_nestprint.proofs.Seeing.{Given, Passed, Sees, Valued, given_bind, given_guarded, given_ok, name_given, seen_front, sign_given, text_front}
use Rattle.ch_script.specs.Arguments.{arg_at, arg_comma_at, list_at, list_comma_at}
use Rattle.ch_script.specs.Commands.{arguments_at, begins_require, command_at, commands_at, datacopy_at, distribute_at, fuse_at, is_more, known_word, peel_at, permute_at, require_at, requires_at, shift_at, skew_at, split_at, tile_at, unroll_at}
use Rattle.ch_script.specs.Conditions.{condition_at}
use Rattle.ch_script.specs.Limits.{most_commands, most_conditions}
use Rattle.ch_script.specs.Recipes.{arg_fits, args_fit, command_fits, condition_fits}
use Rattle.ch_script.specs.Words.{require_text, word_of, word_text}
use Rattle.ch_script.specs.declared.recipe.Arg.{Arg}
use Rattle.ch_script.specs.declared.recipe.Command.{Command}
use Rattle.ch_script.specs.declared.recipe.Command.TheVariants.{Permute, Skew, Shift, Tile, Unroll, Split, Peel, Fuse, Distribute, Datacopy, Accumulate}
use Rattle.ch_script.specs.declared.recipe.Cond.{Cond}
use Rattle.ch_script.specs.declared.recipe.Purpose.TheVariants as purposes
use Rattle.ch_script.specs.declared.word.Word.{Word}
use Rattle.ch_script.specs.declared.word.Word.TheVariants as words
use Rattle.ch_scriptprint.specs.Printable.{are_params, arg_written, args_written, command_written, condition_written, is_list}
use Rattle.ch_scriptprint.specs.Printed.{word_of_command}
use Rattle.ch_scriptprint.proofs.ArgsRead.{arg_comma_given, arg_given, list_comma_given, list_given}
use Rattle.ch_scriptprint.proofs.CondsRead.{condition_given}
use Rattle.ch_scriptprint.proofs.RecipeLays.{each_both}
use Rattle.ch_scriptprint.proofs.Series.{given_same, series_given}
use Rattle.ch_scriptprint.proofs.Symbols.{arg_symbols, args_symbols, arguments_symbols, command_symbols, condition_symbols, line_symbols, name_symbols, require_symbols, three_symbols, two_symbols}

pub word_back : (w : Word) → word_of (word_text w) ≡ Some w
unfolding word_of
word_back words.Permute = refl
word_back words.Skew = refl
word_back words.Shift = refl
word_back words.Tile = refl
word_back words.Unroll = refl
word_back words.Split = refl
word_back words.Peel = refl
word_back words.Fuse = refl
word_back words.Distribute = refl
word_back words.Datacopy = refl
word_back words.Accumulate = refl

-- no command is a condition
no_require : (w : Word) → bytes_eq (word_text w) require_text ≡ false
no_require words.Permute = refl
no_require words.Skew = refl
no_require words.Shift = refl
no_require words.Tile = refl
no_require words.Unroll = refl
no_require words.Split = refl
no_require words.Peel = refl
no_require words.Fuse = refl
no_require words.Distribute = refl
no_require words.Datacopy = refl
no_require words.Accumulate = refl

two_flat : (a b rest : List Symbol) → two_symbols a b ++ rest ≡ a ++ (Mark signs.Comma ∷ (b ++ rest))
two_flat a b rest = append_assoc (a ++ Mark signs.Comma ∷ []) b rest ∙ append_assoc a (Mark signs.Comma ∷ []) (b ++ rest)

three_flat : (a b c rest : List Symbol) → three_symbols a b c ++ rest ≡ a ++ (Mark signs.Comma ∷ (b ++ (Mark signs.Comma ∷ (c ++ rest))))
three_flat a b c rest = two_flat (two_symbols a b) c rest ∙ two_flat a b (Mark signs.Comma ∷ (c ++ rest))

module _ (bytes : List ℕ) (ps : List (List ℕ)) (all : are_params [] ps ≡ true) where
  list_of : (args : List Arg) → args_written args ≡ true → is_list args ≡ true
  list_of args w = (and_parts (is_list args) (list_all arg_written args) w).0

  permute_given : (s : Arg) (order : List Arg) (ts : List Token) (rest : List Symbol) → command_fits (length ps) (Permute s order) ≡ true → command_written (Permute s order) ≡ true
      → Sees bytes ts (arguments_symbols ps (Permute s order) ++ (Mark signs.RightParen ∷ rest)) → Given (Valued bytes (Permute s order) (Mark signs.RightParen ∷ rest)) (permute_at bytes ps ts)
  unfolding permute_at
  permute_given s order ts rest h w sees =
      let close : List Symbol = Mark signs.RightParen ∷ rest in
      let goal = Valued bytes (Permute s order) close in
      let f0 = and_parts (arg_fits (length ps) s) (args_fit (length ps) order) h in
      let g0 = and_parts (arg_written s) (args_written order) w in
      let t0 : List Symbol = args_symbols ps order ++ close in
      let flat : Sees bytes ts (arg_symbols ps s ++ (Mark signs.Comma ∷ t0)) = sees ∙ two_flat (arg_symbols ps s) (args_symbols ps order) close in
      given_bind (Valued bytes s t0) goal (arg_comma_at bytes ps ts) _ (arg_comma_given bytes ps all s ts t0 (f0.0) flat) (λ x0 p0.
      given_bind (Valued bytes order close) goal (list_at bytes ps x0.1) _ (list_given bytes ps all order x0.1 close (f0.1) (list_of order (g0.1)) p0.1) (λ x1 p1.
      given_ok goal (Permute x0.0 x1.0, x1.1) (ap (λ (u : Arg). Permute u x1.0) p0.0 ∙ ap (λ (u : List Arg). Permute s u) p1.0, p1.1)))

  skew_given : (ss : List Arg) (level : Arg) (amounts : List Arg) (ts : List Token) (rest : List Symbol) → command_fits (length ps) (Skew ss level amounts) ≡ true → command_written (Skew ss level amounts) ≡ true
      → Sees bytes ts (arguments_symbols ps (Skew ss level amounts) ++ (Mark signs.RightParen ∷ rest)) → Given (Valued bytes (Skew ss level amounts) (Mark signs.RightParen ∷ rest)) (skew_at bytes ps ts)
  unfolding skew_at
  skew_given ss level amounts ts rest h w sees =
      let close : List Symbol = Mark signs.RightParen ∷ rest in
      let goal = Valued bytes (Skew ss level amounts) close in
      let f0 = and_parts (args_fit (length ps) ss) (arg_fits (length ps) level && args_fit (length ps) amounts) h in
      let f1 = and_parts (arg_fits (length ps) level) (args_fit (length ps) amounts) f0.1 in
      let g0 = and_parts (args_written ss) (arg_written level && args_written amounts) w in
      let g1 = and_parts (arg_written level) (args_written amounts) g0.1 in
      let t1 : List Symbol = args_symbols ps amounts ++ close in
      let t0 : List Symbol = arg_symbols ps level ++ (Mark signs.Comma ∷ t1) in
      let flat : Sees bytes ts (args_symbols ps ss ++ (Mark signs.Comma ∷ t0)) = sees ∙ three_flat (args_symbols ps ss) (arg_symbols ps level) (args_symbols ps amounts) close in
      given_bind (Valued bytes ss t0) goal (list_comma_at bytes ps ts) _ (list_comma_given bytes ps all ss ts t0 (f0.0) (list_of ss (g0.0)) flat) (λ x0 p0.
      given_bind (Valued bytes level t1) goal (arg_comma_at bytes ps x0.1) _ (arg_comma_given bytes ps all level x0.1 t1 (f1.0) p0.1) (λ x1 p1.
      given_bind (Valued bytes amounts close) goal (list_at bytes ps x1.1) _ (list_given bytes ps all amounts x1.1 close (f1.1) (list_of amounts (g1.1)) p1.1) (λ x2 p2.
      given_ok goal (Skew x0.0 x1.0 x2.0, x2.1) (ap (λ (u : List Arg). Skew u x1.0 x2.0) p0.0 ∙ ap (λ (u : Arg). Skew ss u x2.0) p1.0 ∙ ap (λ (u : List Arg). Skew ss level u) p2.0, p2.1))))

  shift_given : (ss : List Arg) (level : Arg) (amount : Arg) (ts : List Token) (rest : List Symbol) → command_fits (length ps) (Shift ss level amount) ≡ true → command_written (Shift ss level amount) ≡ true
      → Sees bytes ts (arguments_symbols ps (Shift ss level amount) ++ (Mark signs.RightParen ∷ rest)) → Given (Valued bytes (Shift ss level amount) (Mark signs.RightParen ∷ rest)) (shift_at bytes ps ts)
  unfolding shift_at
  shift_given ss level amount ts rest h w sees =
      let close : List Symbol = Mark signs.RightParen ∷ rest in
      let goal = Valued bytes (Shift ss level amount) close in
      let f0 = and_parts (args_fit (length ps) ss) (arg_fits (length ps) level && arg_fits (length ps) amount) h in
      let f1 = and_parts (arg_fits (length ps) level) (arg_fits (length ps) amount) f0.1 in
      let g0 = and_parts (args_written ss) (arg_written level && arg_written amount) w in
      let g1 = and_parts (arg_written level) (arg_written amount) g0.1 in
      let t1 : List Symbol = arg_symbols ps amount ++ close in
      let t0 : List Symbol = arg_symbols ps level ++ (Mark signs.Comma ∷ t1) in
      let flat : Sees bytes ts (args_symbols ps ss ++ (Mark signs.Comma ∷ t0)) = sees ∙ three_flat (args_symbols ps ss) (arg_symbols ps level) (arg_symbols ps amount) close in
      given_bind (Valued bytes ss t0) goal (list_comma_at bytes ps ts) _ (list_comma_given bytes ps all ss ts t0 (f0.0) (list_of ss (g0.0)) flat) (λ x0 p0.
      given_bind (Valued bytes level t1) goal (arg_comma_at bytes ps x0.1) _ (arg_comma_given bytes ps all level x0.1 t1 (f1.0) p0.1) (λ x1 p1.
      given_bind (Valued bytes amount close) goal (arg_at bytes ps x1.1) _ (arg_given bytes ps all amount x1.1 close (f1.1) p1.1) (λ x2 p2.
      given_ok goal (Shift x0.0 x1.0 x2.0, x2.1) (ap (λ (u : List Arg). Shift u x1.0 x2.0) p0.0 ∙ ap (λ (u : Arg). Shift ss u x2.0) p1.0 ∙ ap (λ (u : Arg). Shift ss level u) p2.0, p2.1))))

  tile_given : (s : Arg) (level : Arg) (size : Arg) (outer : Arg) (ts : List Token) (rest : List Symbol) → command_fits (length ps) (Tile s level size outer) ≡ true → command_written (Tile s level size outer) ≡ true
      → Sees bytes ts (arguments_symbols ps (Tile s level size outer) ++ (Mark signs.RightParen ∷ rest)) → Given (Valued bytes (Tile s level size outer) (Mark signs.RightParen ∷ rest)) (tile_at bytes ps ts)
  unfolding tile_at
  tile_given s level size outer ts rest h w sees =
      let close : List Symbol = Mark signs.RightParen ∷ rest in
      let goal = Valued bytes (Tile s level size outer) close in
      let f0 = and_parts (arg_fits (length ps) s) (arg_fits (length ps) level && (arg_fits (length ps) size && arg_fits (length ps) outer)) h in
      let f1 = and_parts (arg_fits (length ps) level) (arg_fits (length ps) size && arg_fits (length ps) outer) f0.1 in
      let f2 = and_parts (arg_fits (length ps) size) (arg_fits (length ps) outer) f1.1 in
      let t2 : List Symbol = arg_symbols ps outer ++ close in
      let t1 : List Symbol = arg_symbols ps size ++ (Mark signs.Comma ∷ t2) in
      let t0 : List Symbol = arg_symbols ps level ++ (Mark signs.Comma ∷ t1) in
      let flat : Sees bytes ts (arg_symbols ps s ++ (Mark signs.Comma ∷ t0)) = sees ∙ two_flat (three_symbols (arg_symbols ps s) (arg_symbols ps level) (arg_symbols ps size)) (arg_symbols ps outer) close ∙ three_flat (arg_symbols ps s) (arg_symbols ps level) (arg_symbols ps size) (Mark signs.Comma ∷ t2) in
      given_bind (Valued bytes s t0) goal (arg_comma_at bytes ps ts) _ (arg_comma_given bytes ps all s ts t0 (f0.0) flat) (λ x0 p0.
      given_bind (Valued bytes level t1) goal (arg_comma_at bytes ps x0.1) _ (arg_comma_given bytes ps all level x0.1 t1 (f1.0) p0.1) (λ x1 p1.
      given_bind (Valued bytes size t2) goal (arg_comma_at bytes ps x1.1) _ (arg_comma_given bytes ps all size x1.1 t2 (f2.0) p1.1) (λ x2 p2.
      given_bind (Valued bytes outer close) goal (arg_at bytes ps x2.1) _ (arg_given bytes ps all outer x2.1 close (f2.1) p2.1) (λ x3 p3.
      given_ok goal (Tile x0.0 x1.0 x2.0 x3.0, x3.1) (ap (λ (u : Arg). Tile u x1.0 x2.0 x3.0) p0.0 ∙ ap (λ (u : Arg). Tile s u x2.0 x3.0) p1.0 ∙ ap (λ (u : Arg). Tile s level u x3.0) p2.0 ∙ ap (λ (u : Arg). Tile s level size u) p3.0, p3.1)))))

  unroll_given : (s : Arg) (level : Arg) (amount : Arg) (ts : List Token) (rest : List Symbol) → command_fits (length ps) (Unroll s level amount) ≡ true → command_written (Unroll s level amount) ≡ true
      → Sees bytes ts (arguments_symbols ps (Unroll s level amount) ++ (Mark signs.RightParen ∷ rest)) → Given (Valued bytes (Unroll s level amount) (Mark signs.RightParen ∷ rest)) (unroll_at bytes ps ts)
  unfolding unroll_at
  unroll_given s level amount ts rest h w sees =
      let close : List Symbol = Mark signs.RightParen ∷ rest in
      let goal = Valued bytes (Unroll s level amount) close in
      let f0 = and_parts (arg_fits (length ps) s) (arg_fits (length ps) level && arg_fits (length ps) amount) h in
      let f1 = and_parts (arg_fits (length ps) level) (arg_fits (length ps) amount) f0.1 in
      let t1 : List Symbol = arg_symbols ps amount ++ close in
      let t0 : List Symbol = arg_symbols ps level ++ (Mark signs.Comma ∷ t1) in
      let flat : Sees bytes ts (arg_symbols ps s ++ (Mark signs.Comma ∷ t0)) = sees ∙ three_flat (arg_symbols ps s) (arg_symbols ps level) (arg_symbols ps amount) close in
      given_bind (Valued bytes s t0) goal (arg_comma_at bytes ps ts) _ (arg_comma_given bytes ps all s ts t0 (f0.0) flat) (λ x0 p0.
      given_bind (Valued bytes level t1) goal (arg_comma_at bytes ps x0.1) _ (arg_comma_given bytes ps all level x0.1 t1 (f1.0) p0.1) (λ x1 p1.
      given_bind (Valued bytes amount close) goal (arg_at bytes ps x1.1) _ (arg_given bytes ps all amount x1.1 close (f1.1) p1.1) (λ x2 p2.
      given_ok goal (Unroll x0.0 x1.0 x2.0, x2.1) (ap (λ (u : Arg). Unroll u x1.0 x2.0) p0.0 ∙ ap (λ (u : Arg). Unroll s u x2.0) p1.0 ∙ ap (λ (u : Arg). Unroll s level u) p2.0, p2.1))))

  split_given : (s : Arg) (level : Arg) (c : Cond) (ts : List Token) (rest : List Symbol) → command_fits (length ps) (Split s level c) ≡ true → command_written (Split s level c) ≡ true
      → Sees bytes ts (arguments_symbols ps (Split s level c) ++ (Mark signs.RightParen ∷ rest)) → Given (Valued bytes (Split s level c) (Mark signs.RightParen ∷ rest)) (split_at bytes ps ts)
  unfolding split_at
  split_given s level c ts rest h w sees =
      let close : List Symbol = Mark signs.RightParen ∷ rest in
      let goal = Valued bytes (Split s level c) close in
      let f0 = and_parts (arg_fits (length ps) s) (arg_fits (length ps) level && condition_fits purposes.Split (length ps) c) h in
      let f1 = and_parts (arg_fits (length ps) level) (condition_fits purposes.Split (length ps) c) f0.1 in
      let g0 = and_parts (arg_written s) (arg_written level && condition_written c) w in
      let g1 = and_parts (arg_written level) (condition_written c) g0.1 in
      let t1 : List Symbol = condition_symbols ps c ++ close in
      let t0 : List Symbol = arg_symbols ps level ++ (Mark signs.Comma ∷ t1) in
      let flat : Sees bytes ts (arg_symbols ps s ++ (Mark signs.Comma ∷ t0)) = sees ∙ three_flat (arg_symbols ps s) (arg_symbols ps level) (condition_symbols ps c) close in
      given_bind (Valued bytes s t0) goal (arg_comma_at bytes ps ts) _ (arg_comma_given bytes ps all s ts t0 (f0.0) flat) (λ x0 p0.
      given_bind (Valued bytes level t1) goal (arg_comma_at bytes ps x0.1) _ (arg_comma_given bytes ps all level x0.1 t1 (f1.0) p0.1) (λ x1 p1.
      given_bind (Valued bytes c close) goal (condition_at bytes purposes.Split ps x1.1) _ (condition_given bytes purposes.Split ps all c x1.1 close (f1.1) (g1.1) (record { star = refl; plus = refl; minus = refl }) p1.1) (λ x2 p2.
      given_ok goal (Split x0.0 x1.0 x2.0, x2.1) (ap (λ (u : Arg). Split u x1.0 x2.0) p0.0 ∙ ap (λ (u : Arg). Split s u x2.0) p1.0 ∙ ap (λ (u : Cond). Split s level u) p2.0, p2.1))))

  peel_given : (s : Arg) (level : Arg) (count : Arg) (ts : List Token) (rest : List Symbol) → command_fits (length ps) (Peel s level count) ≡ true → command_written (Peel s level count) ≡ true
      → Sees bytes ts (arguments_symbols ps (Peel s level count) ++ (Mark signs.RightParen ∷ rest)) → Given (Valued bytes (Peel s level count) (Mark signs.RightParen ∷ rest)) (peel_at bytes ps ts)
  unfolding peel_at
  peel_given s level count ts rest h w sees =
      let close : List Symbol = Mark signs.RightParen ∷ rest in
      let goal = Valued bytes (Peel s level count) close in
      let f0 = and_parts (arg_fits (length ps) s) (arg_fits (length ps) level && arg_fits (length ps) count) h in
      let f1 = and_parts (arg_fits (length ps) level) (arg_fits (length ps) count) f0.1 in
      let t1 : List Symbol = arg_symbols ps count ++ close in
      let t0 : List Symbol = arg_symbols ps level ++ (Mark signs.Comma ∷ t1) in
      let flat : Sees bytes ts (arg_symbols ps s ++ (Mark signs.Comma ∷ t0)) = sees ∙ three_flat (arg_symbols ps s) (arg_symbols ps level) (arg_symbols ps count) close in
      given_bind (Valued bytes s t0) goal (arg_comma_at bytes ps ts) _ (arg_comma_given bytes ps all s ts t0 (f0.0) flat) (λ x0 p0.
      given_bind (Valued bytes level t1) goal (arg_comma_at bytes ps x0.1) _ (arg_comma_given bytes ps all level x0.1 t1 (f1.0) p0.1) (λ x1 p1.
      given_bind (Valued bytes count close) goal (arg_at bytes ps x1.1) _ (arg_given bytes ps all count x1.1 close (f1.1) p1.1) (λ x2 p2.
      given_ok goal (Peel x0.0 x1.0 x2.0, x2.1) (ap (λ (u : Arg). Peel u x1.0 x2.0) p0.0 ∙ ap (λ (u : Arg). Peel s u x2.0) p1.0 ∙ ap (λ (u : Arg). Peel s level u) p2.0, p2.1))))

  fuse_given : (ss : List Arg) (level : Arg) (ts : List Token) (rest : List Symbol) → command_fits (length ps) (Fuse ss level) ≡ true → command_written (Fuse ss level) ≡ true
      → Sees bytes ts (arguments_symbols ps (Fuse ss level) ++ (Mark signs.RightParen ∷ rest)) → Given (Valued bytes (Fuse ss level) (Mark signs.RightParen ∷ rest)) (fuse_at bytes ps ts)
  unfolding fuse_at
  fuse_given ss level ts rest h w sees =
      let close : List Symbol = Mark signs.RightParen ∷ rest in
      let goal = Valued bytes (Fuse ss level) close in
      let f0 = and_parts (args_fit (length ps) ss) (arg_fits (length ps) level) h in
      let g0 = and_parts (args_written ss) (arg_written level) w in
      let t0 : List Symbol = arg_symbols ps level ++ close in
      let flat : Sees bytes ts (args_symbols ps ss ++ (Mark signs.Comma ∷ t0)) = sees ∙ two_flat (args_symbols ps ss) (arg_symbols ps level) close in
      given_bind (Valued bytes ss t0) goal (list_comma_at bytes ps ts) _ (list_comma_given bytes ps all ss ts t0 (f0.0) (list_of ss (g0.0)) flat) (λ x0 p0.
      given_bind (Valued bytes level close) goal (arg_at bytes ps x0.1) _ (arg_given bytes ps all level x0.1 close (f0.1) p0.1) (λ x1 p1.
      given_ok goal (Fuse x0.0 x1.0, x1.1) (ap (λ (u : List Arg). Fuse u x1.0) p0.0 ∙ ap (λ (u : Arg). Fuse ss u) p1.0, p1.1)))

  distribute_given : (ss : List Arg) (level : Arg) (ts : List Token) (rest : List Symbol) → command_fits (length ps) (Distribute ss level) ≡ true → command_written (Distribute ss level) ≡ true
      → Sees bytes ts (arguments_symbols ps (Distribute ss level) ++ (Mark signs.RightParen ∷ rest)) → Given (Valued bytes (Distribute ss level) (Mark signs.RightParen ∷ rest)) (distribute_at bytes ps ts)
  unfolding distribute_at
  distribute_given ss level ts rest h w sees =
      let close : List Symbol = Mark signs.RightParen ∷ rest in
      let goal = Valued bytes (Distribute ss level) close in
      let f0 = and_parts (args_fit (length ps) ss) (arg_fits (length ps) level) h in
      let g0 = and_parts (args_written ss) (arg_written level) w in
      let t0 : List Symbol = arg_symbols ps level ++ close in
      let flat : Sees bytes ts (args_symbols ps ss ++ (Mark signs.Comma ∷ t0)) = sees ∙ two_flat (args_symbols ps ss) (arg_symbols ps level) close in
      given_bind (Valued bytes ss t0) goal (list_comma_at bytes ps ts) _ (list_comma_given bytes ps all ss ts t0 (f0.0) (list_of ss (g0.0)) flat) (λ x0 p0.
      given_bind (Valued bytes level close) goal (arg_at bytes ps x0.1) _ (arg_given bytes ps all level x0.1 close (f0.1) p0.1) (λ x1 p1.
      given_ok goal (Distribute x0.0 x1.0, x1.1) (ap (λ (u : List Arg). Distribute u x1.0) p0.0 ∙ ap (λ (u : Arg). Distribute ss u) p1.0, p1.1)))

  datacopy_given : (s : Arg) (level : Arg) (array : List ℕ) (ts : List Token) (rest : List Symbol) → command_fits (length ps) (Datacopy s level array) ≡ true → command_written (Datacopy s level array) ≡ true
      → Sees bytes ts (arguments_symbols ps (Datacopy s level array) ++ (Mark signs.RightParen ∷ rest)) → Given (Valued bytes (Datacopy s level array) (Mark signs.RightParen ∷ rest)) (datacopy_at bytes ps ts)
  unfolding datacopy_at
  datacopy_given s level array ts rest h w sees =
      let close : List Symbol = Mark signs.RightParen ∷ rest in
      let goal = Valued bytes (Datacopy s level array) close in
      let f0 = and_parts (arg_fits (length ps) s) (arg_fits (length ps) level) h in
      let t1 : List Symbol = name_symbols array ++ close in
      let t0 : List Symbol = arg_symbols ps level ++ (Mark signs.Comma ∷ t1) in
      let flat : Sees bytes ts (arg_symbols ps s ++ (Mark signs.Comma ∷ t0)) = sees ∙ three_flat (arg_symbols ps s) (arg_symbols ps level) (name_symbols array) close in
      given_bind (Valued bytes s t0) goal (arg_comma_at bytes ps ts) _ (arg_comma_given bytes ps all s ts t0 (f0.0) flat) (λ x0 p0.
      given_bind (Valued bytes level t1) goal (arg_comma_at bytes ps x0.1) _ (arg_comma_given bytes ps all level x0.1 t1 (f0.1) p0.1) (λ x1 p1.
      given_bind (Valued bytes array close) goal (name_at bytes R1 x1.1) _ (name_given bytes R1 array x1.1 close p1.1) (λ x2 p2.
      given_ok goal (Datacopy x0.0 x1.0 x2.0, x2.1) (ap (λ (u : Arg). Datacopy u x1.0 x2.0) p0.0 ∙ ap (λ (u : Arg). Datacopy s u x2.0) p1.0 ∙ ap (λ (u : List ℕ). Datacopy s level u) p2.0, p2.1))))

  pub arguments_given : (c : Command) (ts : List Token) (rest : List Symbol) → command_fits (length ps) c ≡ true → command_written c ≡ true
      → Sees bytes ts (arguments_symbols ps c ++ (Mark signs.RightParen ∷ rest)) → Given (Valued bytes c (Mark signs.RightParen ∷ rest)) (arguments_at (word_of_command c) bytes ps ts)
  arguments_given (Permute s order) ts rest h w sees = permute_given s order ts rest h w sees
  arguments_given (Skew ss level amounts) ts rest h w sees = skew_given ss level amounts ts rest h w sees
  arguments_given (Shift ss level amount) ts rest h w sees = shift_given ss level amount ts rest h w sees
  arguments_given (Tile s level size outer) ts rest h w sees = tile_given s level size outer ts rest h w sees
  arguments_given (Unroll s level amount) ts rest h w sees = unroll_given s level amount ts rest h w sees
  arguments_given (Split s level c) ts rest h w sees = split_given s level c ts rest h w sees
  arguments_given (Peel s level count) ts rest h w sees = peel_given s level count ts rest h w sees
  arguments_given (Fuse ss level) ts rest h w sees = fuse_given ss level ts rest h w sees
  arguments_given (Distribute ss level) ts rest h w sees = distribute_given ss level ts rest h w sees
  arguments_given (Datacopy s level array) ts rest h w sees = datacopy_given s level array ts rest h w sees
  arguments_given Accumulate ts rest h w sees = given_ok (Valued bytes Accumulate (Mark signs.RightParen ∷ rest)) (Accumulate, ts) (refl, sees)

  -- what is behind the arguments
  abbrev end_of : List Symbol → List Symbol
  end_of rest = Mark signs.RightParen ∷ Mark signs.Semicolon ∷ rest

  line_flat : (word : List ℕ) (inside rest : List Symbol) → line_symbols word inside ++ rest ≡ Name word ∷ Mark signs.LeftParen ∷ (inside ++ end_of rest)
  line_flat word inside rest = ap (λ (xs : List Symbol). Name word ∷ Mark signs.LeftParen ∷ xs) (append_assoc inside (Mark signs.RightParen ∷ Mark signs.Semicolon ∷ []) rest)

  command_given : (found : List Command) (c : Command) (ts : List Token) (rest : List Symbol) → command_fits (length ps) c ≡ true → command_written c ≡ true → length found < most_commands
      → Sees bytes ts (command_symbols ps c ++ rest) → Given (Valued bytes (found ++ c ∷ []) rest) (command_at bytes ps found ts)
  unfolding command_at
  command_given found c ts rest h w few sees =
      let goal = Valued bytes (found ++ c ∷ []) rest in
      let word = word_of_command c in
      let inside : List Symbol = arguments_symbols ps c ++ end_of rest in
      let paren : List Symbol = Mark signs.LeftParen ∷ inside in
      let flat : Sees bytes ts (Name (word_text word) ∷ paren) = sees ∙ line_flat (word_text word) (arguments_symbols ps c) rest in
      given_bind (Valued bytes (word_text word) paren) goal (name_at bytes R1 ts) _ (name_given bytes R1 (word_text word) ts paren flat) (λ name a.
      let known : known_word (place bytes ts) (word_of name.0) ≡ Ok word = ap (λ (text : List ℕ). known_word (place bytes ts) (word_of text)) a.0 ∙ ap (known_word (place bytes ts)) (word_back word) in
      given_bind (λ v. v ≡ word) goal (known_word (place bytes ts) (word_of name.0)) _ (word, known, refl) (λ v b.
      given_bind (λ u. u ≡ word) goal (guarded (nat_lt (length found) most_commands) R4 (place bytes ts) (λ _. Ok v)) _
      (given_guarded (λ u. u ≡ word) (nat_lt (length found) most_commands) R4 (place bytes ts) (λ _. Ok v) (lt-ltb (length found) most_commands few) (given_ok (λ u. u ≡ word) v b)) (λ u d.
      given_bind (Passed bytes inside) goal (sign_at bytes R1 signs.LeftParen name.1) _ (sign_given bytes R1 signs.LeftParen name.1 inside a.1) (λ us e.
      let read : Given (Valued bytes c (end_of rest)) (arguments_at u bytes ps us) =
      given_same (Valued bytes c (end_of rest)) (arguments_at u bytes ps us) (arguments_at word bytes ps us) (ap (λ (v : Word). arguments_at v bytes ps us) d) (arguments_given c us (Mark signs.Semicolon ∷ rest) h w e) in
      given_bind (Valued bytes c (end_of rest)) goal (arguments_at u bytes ps us) _ read (λ x f.
      given_bind (Passed bytes (Mark signs.Semicolon ∷ rest)) goal (sign_at bytes R1 signs.RightParen x.1) _ (sign_given bytes R1 signs.RightParen x.1 (Mark signs.Semicolon ∷ rest) f.1) (λ vs g.
      given_bind (Passed bytes rest) goal (sign_at bytes R1 signs.Semicolon vs) _ (sign_given bytes R1 signs.Semicolon vs rest g) (λ zs k.
      given_ok goal (found ++ x.0 ∷ [], zs) (ap (λ (y : Command). found ++ y ∷ []) f.0, k))))))))

  require_given : (found : List Cond) (c : Cond) (ts : List Token) (rest : List Symbol) → condition_fits purposes.Require (length ps) c ≡ true → condition_written c ≡ true → length found < most_conditions
      → Sees bytes ts (require_symbols ps c ++ rest) → Given (Valued bytes (found ++ c ∷ []) rest) (require_at bytes ps found ts)
  unfolding require_at
  require_given found c ts rest h w few sees =
      let goal = Valued bytes (found ++ c ∷ []) rest in
      let inside : List Symbol = condition_symbols ps c ++ end_of rest in
      let paren : List Symbol = Mark signs.LeftParen ∷ inside in
      let flat : Sees bytes ts (Name require_text ∷ paren) = sees ∙ line_flat require_text (condition_symbols ps c) rest in
      given_bind (Valued bytes require_text paren) goal (name_at bytes R1 ts) _ (name_given bytes R1 require_text ts paren flat) (λ name a.
      given_bind (Passed bytes paren) goal (guarded (nat_lt (length found) most_conditions) R4 (place bytes ts) (λ _. Ok name.1)) _
      (given_guarded (Passed bytes paren) (nat_lt (length found) most_conditions) R4 (place bytes ts) (λ _. Ok name.1) (lt-ltb (length found) most_conditions few) (given_ok (Passed bytes paren) name.1 a.1)) (λ us d.
      given_bind (Passed bytes inside) goal (sign_at bytes R1 signs.LeftParen us) _ (sign_given bytes R1 signs.LeftParen us inside d) (λ vs e.
      given_bind (Valued bytes c (end_of rest)) goal (condition_at bytes purposes.Require ps vs) _
      (condition_given bytes purposes.Require ps all c vs (end_of rest) h w (record { star = refl; plus = refl; minus = refl }) e) (λ x f.
      given_bind (Passed bytes (Mark signs.Semicolon ∷ rest)) goal (sign_at bytes R1 signs.RightParen x.1) _ (sign_given bytes R1 signs.RightParen x.1 (Mark signs.Semicolon ∷ rest) f.1) (λ ys g.
      given_bind (Passed bytes rest) goal (sign_at bytes R1 signs.Semicolon ys) _ (sign_given bytes R1 signs.Semicolon ys rest g) (λ zs k.
      given_ok goal (found ++ x.0 ∷ [], zs) (ap (λ (y : Cond). found ++ y ∷ []) f.0, k)))))))

  -- the commands of a recipe, up to the closing brace

  abbrev Good : Command → Type 0
  Good c = (command_fits (length ps) c ≡ true) × (command_written c ≡ true)

  pub commands_given : (cs : List Command) (ts : List Token) (rest : List Symbol) → length cs ≤ most_commands → list_all (command_fits (length ps)) cs ≡ true → list_all command_written cs ≡ true
      → Sees bytes ts (flat_map (command_symbols ps) cs ++ (Mark signs.RightBrace ∷ rest)) → Given (Valued bytes cs (Mark signs.RightBrace ∷ rest)) (commands_at bytes ps ts)
  unfolding commands_at
  commands_given cs ts rest few fits written sees =
      let each : Each Good cs = each_both (command_fits (length ps)) command_written Good (λ c h w. (h, w)) cs fits written in
      let close : List Symbol = Mark signs.RightBrace ∷ rest in
      series_given bytes (command_symbols ps) (is_more bytes) (command_at bytes ps) (λ found us. (length found + length us ≤ most_commands) × Each Good us) (λ ss. Unit {0})
      (λ found c us g. let a = g.0 in (omega (arith, a, length-append found (c ∷ [])), g.1.1))
      (λ found c us vs ss g b s. let a = g.0 in command_given found c vs ss g.1.0.0 g.1.0.1 (omega (arith, a)) s)
      (λ c vs ss s. ap (λ (l : Look). not (is_sign signs.RightBrace l)) (seen_front bytes vs (command_symbols ps c ++ ss) s)) (λ c ss. tt)
      cs (most_commands + 1) [] ts close (omega (arith, few), each) (omega (arith, few)) tt
      (λ vs s. ap (λ (l : Look). not (is_sign signs.RightBrace l)) (seen_front bytes vs close s)) sees

  -- the conditions before the commands

  abbrev GoodCond : Cond → Type 0
  GoodCond c = (condition_fits purposes.Require (length ps) c ≡ true) × (condition_written c ≡ true)

  begun : (vs : List Token) (word : List ℕ) (ss : List Symbol) → Sees bytes vs (Name word ∷ ss) → begins_require bytes vs ≡ bytes_eq word require_text
  begun vs word ss s =
      ap (λ (l : Look). if_on l (bytes_eq (text_at bytes vs) require_text)) (seen_front bytes vs (Name word ∷ ss) s) ∙ ap (λ (text : List ℕ). bytes_eq text require_text) (text_front bytes vs word ss s)

  command_ends : (cs : List Command) (rest : List Symbol) (vs : List Token) → Sees bytes vs (flat_map (command_symbols ps) cs ++ (Mark signs.RightBrace ∷ rest)) → begins_require bytes vs ≡ false
  command_ends [] rest vs s = ap (λ (l : Look). if_on l (bytes_eq (text_at bytes vs) require_text)) (seen_front bytes vs (Mark signs.RightBrace ∷ rest) s)
  command_ends (c ∷ cs) rest vs s = begun vs (word_text (word_of_command c)) _ s ∙ no_require (word_of_command c)

  pub requires_given : (cs : List Cond) (ks : List Command) (ts : List Token) (rest : List Symbol) → length cs ≤ most_conditions → list_all (condition_fits purposes.Require (length ps)) cs ≡ true → list_all condition_written cs ≡ true
      → Sees bytes ts (flat_map (require_symbols ps) cs ++ (flat_map (command_symbols ps) ks ++ (Mark signs.RightBrace ∷ rest)))
      → Given (Valued bytes cs (flat_map (command_symbols ps) ks ++ (Mark signs.RightBrace ∷ rest))) (requires_at bytes ps ts)
  unfolding requires_at
  requires_given cs ks ts rest few fits written sees =
      let each : Each GoodCond cs = each_both (condition_fits purposes.Require (length ps)) condition_written GoodCond (λ c h w. (h, w)) cs fits written in
      let close : List Symbol = flat_map (command_symbols ps) ks ++ (Mark signs.RightBrace ∷ rest) in
      series_given bytes (require_symbols ps) (begins_require bytes) (require_at bytes ps) (λ found us. (length found + length us ≤ most_conditions) × Each GoodCond us) (λ ss. Unit {0})
      (λ found c us g. let a = g.0 in (omega (arith, a, length-append found (c ∷ [])), g.1.1))
      (λ found c us vs ss g b s. let a = g.0 in require_given found c vs ss g.1.0.0 g.1.0.1 (omega (arith, a)) s)
      (λ c vs ss s. begun vs require_text _ s ∙ same_bytes require_text) (λ c ss. tt)
      cs (most_conditions + 1) [] ts close (omega (arith, few), each) (omega (arith, few)) tt
      (λ vs s. command_ends ks rest vs s) sees

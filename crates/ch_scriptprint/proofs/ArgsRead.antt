-- Printed arguments are read.
use Rattle.std.proofs.Common.{◌≡◌, ℕ, suc, ℤ, pos, negsuc, ◌≤◌, true, List, [], ◌∷◌, ◌++◌, length, drop, Option, Some, Ok, refl, ap, ◌∙◌, append_assoc, arith}
use Rattle.std.specs.List.{flat_map, list_all}
use Rattle.std.proofs.lemmas.Bool.{and_parts, ltb-true}
use Rattle.ch_lex.specs.declared.error.Code2.TheVariants.{R1}
use Rattle.ch_lex.specs.declared.token.Sign.TheVariants as signs
use Rattle.ch_lex.specs.declared.token.Token.{Token}
use Rattle.ch_nestparse.specs.declared.ahead.Look.{Look}
use Rattle.ch_nestparse.specs.declared.ahead.Look.TheVariants as looks
use Rattle.ch_nestparse.specs.Read.{◌>>=◌, integer_at, is_sign, place, repeated, seen, sign_at, text_at}
use Rattle.ch_nestprint.specs.declared.symbol.Symbol.{Symbol}
use Rattle.ch_nestprint.specs.declared.symbol.Symbol.TheVariants.{Name, Number, Mark}
use Rattle.ch_nestprint.proofs.Cases.{Each}
use Rattle.ch_nestprint.proofs.Seeing.{Given, Passed, Sees, Valued, behind_front, given_bind, given_ok, minus_given, plain_given, seen_front, sign_given, text_front}
use Rattle.ch_script.specs.Arguments.{arg_at, arg_by, arg_comma_at, list_at, list_comma_at, more_arg_at, param_arg}
use Rattle.ch_script.specs.Names.{find_text, next_is_comma}
use Rattle.ch_script.specs.Recipes.{arg_fits, args_fit}
use Rattle.ch_script.specs.declared.recipe.Arg.{Arg}
use Rattle.ch_script.specs.declared.recipe.Arg.TheVariants as arg
use Rattle.ch_scriptprint.specs.Printable.{are_params, is_list}
use Rattle.ch_scriptprint.specs.Printed.{param_name}
use Rattle.ch_scriptprint.proofs.Lays.{more_symbols}
use Rattle.ch_scriptprint.proofs.Params.{known}
use Rattle.ch_scriptprint.proofs.RecipeLays.{each_of}
use Rattle.ch_scriptprint.proofs.Series.{few_seen, given_same, series_given}
use Rattle.ch_scriptprint.proofs.Symbols.{arg_symbols, args_symbols}

module _ (bytes : List ℕ) (ps : List (List ℕ)) (all : are_params [] ps ≡ true) where
  by_look : (a : Arg) (l : Look) (ts : List Token) (rest : List Symbol) → seen bytes ts ≡ l → Given (Valued bytes a rest) (arg_by l bytes ps ts) → Given (Valued bytes a rest) (arg_at bytes ps ts)
  unfolding arg_at
  by_look a l ts rest e g = given_same (Valued bytes a rest) (arg_by (seen bytes ts) bytes ps ts) (arg_by l bytes ps ts) (ap (λ (m : Look). arg_by m bytes ps ts) e) g

  numbered : (z : ℤ) (ts : List Token) (rest : List Symbol) → Given (Valued bytes z rest) (integer_at bytes R1 ts) → Given (Valued bytes (arg.Number z) rest) (integer_at bytes R1 ts >>= λ n. Ok (arg.Number n.0, n.1))
  numbered z ts rest g =
      let goal = Valued bytes (arg.Number z) rest in
      given_bind (Valued bytes z rest) goal (integer_at bytes R1 ts) (λ n. Ok (arg.Number n.0, n.1)) g (λ n h. given_ok goal (arg.Number n.0, n.1) (ap arg.Number h.0, h.1))

  pub arg_given : (a : Arg) (ts : List Token) (rest : List Symbol) → arg_fits (length ps) a ≡ true → Sees bytes ts (arg_symbols ps a ++ rest) → Given (Valued bytes a rest) (arg_at bytes ps ts)
  arg_given (arg.Number (pos n)) ts rest h sees =
      by_look (arg.Number (pos n)) (looks.Number n) ts rest (seen_front bytes ts (Number n ∷ rest) sees) (numbered (pos n) ts rest (plain_given bytes R1 n ts rest sees))
  arg_given (arg.Number (negsuc n)) ts rest h sees =
      by_look (arg.Number (negsuc n)) (looks.Sign signs.Minus) ts rest (seen_front bytes ts (Mark signs.Minus ∷ Number (suc n) ∷ rest) sees) (numbered (negsuc n) ts rest (minus_given bytes R1 (suc n) ts rest sees))
  arg_given (arg.Param k) ts rest h sees =
      let name = param_name ps k in
      let param = known ps k all (ltb-true k (length ps) h) in
      let goal = Valued bytes (arg.Param k) rest in
      let found : find_text (text_at bytes ts) ps ≡ Some k = ap (λ (text : List ℕ). find_text text ps) (text_front bytes ts name rest sees) ∙ param.found in
      by_look (arg.Param k) looks.Name ts rest (seen_front bytes ts (Name name ∷ rest) sees)
      (given_same goal (param_arg (place bytes ts) (find_text (text_at bytes ts) ps) (drop 1 ts)) (Ok (arg.Param k, drop 1 ts))
      (ap (λ (o : Option ℕ). param_arg (place bytes ts) o (drop 1 ts)) found)
      (given_ok goal (arg.Param k, drop 1 ts) (refl, behind_front bytes ts (Name name) rest sees)))

  pub arg_comma_given : (a : Arg) (ts : List Token) (rest : List Symbol) → arg_fits (length ps) a ≡ true → Sees bytes ts (arg_symbols ps a ++ (Mark signs.Comma ∷ rest)) → Given (Valued bytes a rest) (arg_comma_at bytes ps ts)
  unfolding arg_comma_at
  arg_comma_given a ts rest h sees =
      let goal = Valued bytes a rest in
      given_bind (Valued bytes a (Mark signs.Comma ∷ rest)) goal (arg_at bytes ps ts) _ (arg_given a ts (Mark signs.Comma ∷ rest) h sees) (λ x f.
      given_bind (Passed bytes rest) goal (sign_at bytes R1 signs.Comma x.1) _ (sign_given bytes R1 signs.Comma x.1 rest f.1) (λ us g.
      given_ok goal (x.0, us) (f.0, g)))

  more_given : (found : List Arg) (a : Arg) (ts : List Token) (rest : List Symbol) → arg_fits (length ps) a ≡ true → Sees bytes ts (more_symbols (arg_symbols ps) a ++ rest)
      → Given (Valued bytes (found ++ a ∷ []) rest) (more_arg_at bytes ps found ts)
  unfolding more_arg_at
  more_given found a ts rest h sees =
      let goal = Valued bytes (found ++ a ∷ []) rest in
      given_bind (Passed bytes (arg_symbols ps a ++ rest)) goal (sign_at bytes R1 signs.Comma ts) _ (sign_given bytes R1 signs.Comma ts (arg_symbols ps a ++ rest) sees) (λ us f.
      given_bind (Valued bytes a rest) goal (arg_at bytes ps us) _ (arg_given a us rest h f) (λ x g.
      given_ok goal (found ++ x.0 ∷ [], x.1) (ap (λ (b : Arg). found ++ b ∷ []) g.0, g.1)))

  pub list_given : (args : List Arg) (ts : List Token) (rest : List Symbol) → args_fit (length ps) args ≡ true → is_list args ≡ true → Sees bytes ts (args_symbols ps args ++ rest)
      → Given (Valued bytes args rest) (list_at bytes ps ts)
  unfolding list_at
  list_given [] ts rest h some sees = absurd (cc)
  list_given (a ∷ args) ts rest h some sees =
      let goal = Valued bytes (a ∷ args) rest in
      let fits = and_parts (arg_fits (length ps) a) (list_all (arg_fits (length ps)) args) h in
      let each : Each (λ b. arg_fits (length ps) b ≡ true) args = each_of (arg_fits (length ps)) (λ b. arg_fits (length ps) b ≡ true) (λ b e. e) args fits.1 in
      let close : List Symbol = Mark signs.RightBracket ∷ rest in
      let tail = flat_map (more_symbols (arg_symbols ps)) args in
      let inner : List Symbol = arg_symbols ps a ++ (tail ++ close) in
      let flat : Sees bytes ts (Mark signs.LeftBracket ∷ inner) =
      sees ∙ append_assoc (Mark signs.LeftBracket ∷ (arg_symbols ps a ++ tail)) (Mark signs.RightBracket ∷ []) rest
      ∙ ap (λ (xs : List Symbol). Mark signs.LeftBracket ∷ xs) (append_assoc (arg_symbols ps a) tail close) in
      given_bind (Passed bytes inner) goal (sign_at bytes R1 signs.LeftBracket ts) _ (sign_given bytes R1 signs.LeftBracket ts inner flat) (λ us e.
      given_bind (Valued bytes a (tail ++ close)) goal (arg_at bytes ps us) _ (arg_given a us (tail ++ close) fits.0 e) (λ x f.
      let few : length args ≤ length x.1 = few_seen bytes (more_symbols (arg_symbols ps)) (λ b. omega arith) args x.1 close f.1 in
      let series = series_given bytes (more_symbols (arg_symbols ps)) (next_is_comma bytes) (more_arg_at bytes ps) (λ found bs. Each (λ b. arg_fits (length ps) b ≡ true) bs) (λ ss. Unit {0})
      (λ found b bs g. g.1) (λ found b bs vs ss g u s. more_given found b vs ss g.0 s)
      (λ b vs ss s. ap (is_sign signs.Comma) (seen_front bytes vs (more_symbols (arg_symbols ps) b ++ ss) s)) (λ b ss. tt)
      args (length x.1) (a ∷ []) x.1 close each few tt (λ vs s. ap (is_sign signs.Comma) (seen_front bytes vs close s)) f.1 in
      let same : Given (Valued bytes (a ∷ args) close) (repeated (next_is_comma bytes) (more_arg_at bytes ps) (length x.1) (x.0 ∷ []) x.1) =
      (series.0, ap (λ (b : Arg). repeated (next_is_comma bytes) (more_arg_at bytes ps) (length x.1) (b ∷ []) x.1) f.0 ∙ series.1, series.2) in
      given_bind (Valued bytes (a ∷ args) close) goal (repeated (next_is_comma bytes) (more_arg_at bytes ps) (length x.1) (x.0 ∷ []) x.1) _ same (λ y g.
      given_bind (Passed bytes rest) goal (sign_at bytes R1 signs.RightBracket y.1) _ (sign_given bytes R1 signs.RightBracket y.1 rest g.1) (λ vs k.
      given_ok goal (y.0, vs) (g.0, k)))))

  pub list_comma_given : (args : List Arg) (ts : List Token) (rest : List Symbol) → args_fit (length ps) args ≡ true → is_list args ≡ true → Sees bytes ts (args_symbols ps args ++ (Mark signs.Comma ∷ rest))
      → Given (Valued bytes args rest) (list_comma_at bytes ps ts)
  unfolding list_comma_at
  list_comma_given args ts rest h some sees =
      let goal = Valued bytes args rest in
      given_bind (Valued bytes args (Mark signs.Comma ∷ rest)) goal (list_at bytes ps ts) _ (list_given args ts (Mark signs.Comma ∷ rest) h some sees) (λ x f.
      given_bind (Passed bytes rest) goal (sign_at bytes R1 signs.Comma x.1) _ (sign_given bytes R1 signs.Comma x.1 rest f.1) (λ us g.
      given_ok goal (x.0, us) (f.0, g)))

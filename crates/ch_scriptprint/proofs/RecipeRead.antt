-- A printed recipe is read as the recipe.
use Rattle.std.proofs.Common.{◌≡◌, ℕ, ◌+◌, ◌-◌, ◌<◌, ◌≤◌, true, ◌&&◌, nat_le, nat_lt, List, [], ◌∷◌, ◌++◌, length, drop, Result, Ok, refl, ap, ◌∙◌, append_assoc, length-append, lt-ltb, arith}
use Rattle.std.specs.Bool.{IsTrue}
use Rattle.std.specs.List.{flat_map, list_all}
use Rattle.std.proofs.lemmas.Bool.{and_parts, leb-true}
use Rattle.ch_lex.specs.declared.error.Code2.TheVariants.{R1, R3, R4}
use Rattle.ch_lex.specs.declared.error.ParseError.{ParseError}
use Rattle.ch_lex.specs.declared.keyword.Keyword.TheVariants as words
use Rattle.ch_lex.specs.declared.token.Sign.TheVariants as signs
use Rattle.ch_lex.specs.declared.token.Token.{Token}
use Rattle.ch_nestparse.specs.Read.{◌>>=◌, guarded, is_sign, keyword_at, name_at, next_is, place, repeated, sign_at}
use Rattle.ch_nestparse.specs.Spelling.{is_name}
use Rattle.ch_nestprint.specs.declared.symbol.Symbol.{Symbol}
use Rattle.ch_nestprint.specs.declared.symbol.Symbol.TheVariants.{Name, Key, Mark}
use Rattle.ch_nestprint.specs.Cuts.{Shows}
use Rattle.ch_nestprint.proofs.Seeing.{Given, Passed, Sees, Valued, behind_front, given_bind, given_chosen, given_guarded, given_ok, given_other, keyword_given, name_given, seen_front, sign_given}
use Rattle.ch_script.specs.Commands.{commands_at, requires_at}
use Rattle.ch_script.specs.Limits.{most_commands, most_conditions, most_params}
use Rattle.ch_script.specs.Names.{is_free, more_param_at, next_is_comma, param_at, params_at}
use Rattle.ch_script.specs.Recipes.{RecipeParts, command_fits, condition_fits, is_recipe, recipe_of}
use Rattle.ch_script.specs.Sections.{section_at}
use Rattle.ch_script.specs.declared.recipe.Cond.{Cond}
use Rattle.ch_script.specs.declared.recipe.Purpose.TheVariants.{Require}
use Rattle.ch_script.specs.declared.section.ParsedRecipe.{ParsedRecipe}
use Rattle.ch_scriptprint.specs.Back.{IsReadAs}
use Rattle.ch_scriptprint.specs.Printable.{are_params, command_written, condition_written, is_printable}
use Rattle.ch_scriptprint.specs.Printed.{recipe_text}
use Rattle.ch_scriptprint.proofs.CommandsRead.{commands_given, requires_given}
use Rattle.ch_scriptprint.proofs.Lays.{listed, more_symbols, shown}
use Rattle.ch_scriptprint.proofs.RecipeLays.{recipe_laid}
use Rattle.ch_scriptprint.proofs.Series.{series_given}
use Rattle.ch_scriptprint.proofs.Symbols.{command_symbols, head_symbols, name_symbols, recipe_symbols, require_symbols}

module _ (bytes : List ℕ) where
  -- parameters

  abbrev Good : List (List ℕ) → List (List ℕ) → Type 0
  Good found ns = (are_params found ns ≡ true) × (length found + length ns ≤ most_params)

  param_given : (found : List (List ℕ)) (n : List ℕ) (ns : List (List ℕ)) (ts : List Token) (rest : List Symbol) → Good found (n ∷ ns) → Sees bytes ts (Name n ∷ rest)
      → Given (Valued bytes (found ++ n ∷ []) rest) (param_at bytes found ts)
  unfolding param_at
  param_given found n ns ts rest good sees =
      let goal = Valued bytes (found ++ n ∷ []) rest in
      let parts = and_parts (is_name n) (is_free n found && are_params (found ++ n ∷ []) ns) good.0 in
      let free = (and_parts (is_free n found) (are_params (found ++ n ∷ []) ns) parts.1).0 in
      let few = good.1 in
      let less : length found < most_params = omega (arith, few) in
      given_bind (Valued bytes n rest) goal (name_at bytes R1 ts) _ (name_given bytes R1 n ts rest sees) (λ name a.
      given_bind (λ t. t ≡ n) goal (guarded (is_free name.0 found) R3 (place bytes ts) (λ _. Ok name.0)) _
      (given_guarded (λ t. t ≡ n) (is_free name.0 found) R3 (place bytes ts) (λ _. Ok name.0) (ap (λ (t : List ℕ). is_free t found) a.0 ∙ free) (given_ok (λ t. t ≡ n) name.0 a.0)) (λ t b.
      given_bind (λ u. u ≡ n) goal (guarded (nat_lt (length found) most_params) R4 (place bytes ts) (λ _. Ok t)) _
      (given_guarded (λ u. u ≡ n) (nat_lt (length found) most_params) R4 (place bytes ts) (λ _. Ok t) (lt-ltb (length found) most_params less) (given_ok (λ u. u ≡ n) t b)) (λ u c.
      given_ok goal (found ++ u ∷ [], name.1) (ap (λ (x : List ℕ). found ++ x ∷ []) c, a.1))))

  more_given : (found : List (List ℕ)) (n : List ℕ) (ns : List (List ℕ)) (ts : List Token) (rest : List Symbol) → Good found (n ∷ ns) → Sees bytes ts (more_symbols name_symbols n ++ rest)
      → Given (Valued bytes (found ++ n ∷ []) rest) (more_param_at bytes found ts)
  unfolding more_param_at
  more_given found n ns ts rest good sees =
      given_bind (Passed bytes (Name n ∷ rest)) (Valued bytes (found ++ n ∷ []) rest) (sign_at bytes R1 signs.Comma ts) (param_at bytes found) (sign_given bytes R1 signs.Comma ts (Name n ∷ rest) sees) (λ us a.
      param_given found n ns us rest good a)

  next_good : (found : List (List ℕ)) (n : List ℕ) (ns : List (List ℕ)) → Good found (n ∷ ns) → Good (found ++ n ∷ []) ns
  next_good found n ns good =
      let parts = and_parts (is_name n) (is_free n found && are_params (found ++ n ∷ []) ns) good.0 in
      let few = good.1 in
      ((and_parts (is_free n found) (are_params (found ++ n ∷ []) ns) parts.1).1, omega (arith, few, length-append found (n ∷ [])))

  params_given : (ns : List (List ℕ)) (ts : List Token) (rest : List Symbol) → Good [] ns → Sees bytes ts (listed name_symbols ns ++ (Mark signs.RightParen ∷ rest)) → Given (Valued bytes ns rest) (params_at bytes ts)
  unfolding params_at
  params_given [] ts rest good sees =
      given_chosen (Valued bytes [] rest) (next_is bytes signs.RightParen ts) (λ _. Ok ([], drop 1 ts)) _
      (ap (is_sign signs.RightParen) (seen_front bytes ts (Mark signs.RightParen ∷ rest) sees))
      (given_ok (Valued bytes [] rest) ([], drop 1 ts) (refl, behind_front bytes ts (Mark signs.RightParen) rest sees))
  params_given (n ∷ ns) ts rest good sees =
      let goal = Valued bytes (n ∷ ns) rest in
      let close : List Symbol = Mark signs.RightParen ∷ rest in
      let tail = flat_map (more_symbols name_symbols) ns in
      let flat : Sees bytes ts (Name n ∷ (tail ++ close)) = sees ∙ append_assoc (name_symbols n) tail close in
      let more = next_good [] n ns good in
      let few : length ns ≤ most_params = let m = good.1 in omega (arith, m) in
      given_other goal (next_is bytes signs.RightParen ts) (λ _. Ok ([], drop 1 ts))
      (λ _. param_at bytes [] ts >>= λ first. repeated (next_is_comma bytes) (more_param_at bytes) most_params first.0 first.1 >>= λ all. sign_at bytes R1 signs.RightParen all.1 >>= λ us. Ok (all.0, us))
      (ap (is_sign signs.RightParen) (seen_front bytes ts (Name n ∷ (tail ++ close)) flat))
      (given_bind (Valued bytes (n ∷ []) (tail ++ close)) goal (param_at bytes [] ts) _ (param_given [] n ns ts (tail ++ close) good flat) (λ x f.
      let series = series_given bytes (more_symbols name_symbols) (next_is_comma bytes) (more_param_at bytes) Good (λ ss. Unit {0}) next_good
      (λ found p qs vs ss g b s. more_given found p qs vs ss g s)
      (λ p vs ss s. ap (is_sign signs.Comma) (seen_front bytes vs (more_symbols name_symbols p ++ ss) s)) (λ p ss. tt)
      ns most_params (n ∷ []) x.1 close more few tt (λ vs s. ap (is_sign signs.Comma) (seen_front bytes vs close s)) f.1 in
      let same : Given (Valued bytes (n ∷ ns) close) (repeated (next_is_comma bytes) (more_param_at bytes) most_params x.0 x.1) =
      (series.0, ap (λ (ps : List (List ℕ)). repeated (next_is_comma bytes) (more_param_at bytes) most_params ps x.1) f.0 ∙ series.1, series.2) in
      given_bind (Valued bytes (n ∷ ns) close) goal (repeated (next_is_comma bytes) (more_param_at bytes) most_params x.0 x.1) _ same (λ y g.
      given_bind (Passed bytes rest) goal (sign_at bytes R1 signs.RightParen y.1) _ (sign_given bytes R1 signs.RightParen y.1 rest g.1) (λ us k.
      given_ok goal (y.0, us) (g.0, k)))))

none_left : (bytes : List ℕ) (ts : List Token) → Sees bytes ts [] → ts ≡ []
none_left bytes [] h = refl
none_left bytes (t ∷ ts) h = absurd (cc)

-- what is known of the parts of a recipe
record Facts (r : RecipeParts) : Type 0 where
  called : is_name r.name ≡ true
  params : are_params [] r.params ≡ true
  few_params : length r.params ≤ most_params
  few_conditions : length r.conditions ≤ most_conditions
  few_commands : length r.commands ≤ most_commands
  conditions_fit : list_all (condition_fits Require (length r.params)) r.conditions ≡ true
  commands_fit : list_all (command_fits (length r.params)) r.commands ≡ true
  conditions_written : list_all condition_written r.conditions ≡ true
  commands_written : list_all command_written r.commands ≡ true

facts : (r : RecipeParts) → is_recipe r ≡ true → is_printable r ≡ true → Facts r
facts r h w =
    let n = length r.params in
    let a = and_parts (nat_le (length r.params) most_params) (nat_le (length r.conditions) most_conditions && (nat_le (length r.commands) most_commands && (list_all (condition_fits Require n) r.conditions && list_all (command_fits n) r.commands))) h in
    let b = and_parts (nat_le (length r.conditions) most_conditions) (nat_le (length r.commands) most_commands && (list_all (condition_fits Require n) r.conditions && list_all (command_fits n) r.commands)) a.1 in
    let c = and_parts (nat_le (length r.commands) most_commands) (list_all (condition_fits Require n) r.conditions && list_all (command_fits n) r.commands) b.1 in
    let fits = and_parts (list_all (condition_fits Require n) r.conditions) (list_all (command_fits n) r.commands) c.1 in
    let d = and_parts (is_name r.name) (are_params [] r.params && (list_all condition_written r.conditions && list_all command_written r.commands)) w in
    let e = and_parts (are_params [] r.params) (list_all condition_written r.conditions && list_all command_written r.commands) d.1 in
    let written = and_parts (list_all condition_written r.conditions) (list_all command_written r.commands) e.1 in
    record {
      called = d.0;
      params = e.0;
      few_params = leb-true (length r.params) most_params a.0;
      few_conditions = leb-true (length r.conditions) most_conditions b.0;
      few_commands = leb-true (length r.commands) most_commands c.0;
      conditions_fit = fits.0;
      commands_fit = fits.1;
      conditions_written = written.0;
      commands_written = written.1;
    }

abbrev pub parsed_of : RecipeParts → ℕ → ParsedRecipe
parsed_of recipe next = record { recipe = recipe; next = next }

abbrev IsRecipe : RecipeParts → RecipeParts × List Token → Type 0
IsRecipe r x = (x.0 ≡ r) × (x.1 ≡ [])

section_given : (bytes : List ℕ) (r : RecipeParts) (ts : List Token) → Facts r → Sees bytes ts (recipe_symbols r) → Given (IsRecipe r) (section_at bytes ts)
unfolding section_at
section_given bytes r ts k sees =
    let goal = IsRecipe r in
    let commands = flat_map (command_symbols r.params) r.commands in
    let requires = flat_map (require_symbols r.params) r.conditions in
    let names = listed name_symbols r.params in
    let brace : List Symbol = Mark signs.RightBrace ∷ [] in
    let fifth : List Symbol = commands ++ brace in
    let fourth : List Symbol = requires ++ fifth in
    let third : List Symbol = Mark signs.LeftBrace ∷ fourth in
    let second : List Symbol = names ++ (Mark signs.RightParen ∷ third) in
    let first : List Symbol = Mark signs.LeftParen ∷ second in
    let head = head_symbols r.name r.params in
    let flat : Sees bytes ts (Key words.Recipe ∷ Name r.name ∷ first) =
    sees ∙ append_assoc (head ++ requires) commands brace ∙ append_assoc head requires fifth
    ∙ ap (λ (xs : List Symbol). Key words.Recipe ∷ Name r.name ∷ Mark signs.LeftParen ∷ xs) (append_assoc names (Mark signs.RightParen ∷ Mark signs.LeftBrace ∷ []) fourth) in
    let few = k.few_params in
    given_bind (Passed bytes (Name r.name ∷ first)) goal (keyword_at bytes R1 words.Recipe ts) _ (keyword_given bytes R1 words.Recipe ts (Name r.name ∷ first) flat) (λ word a.
    given_bind (Valued bytes r.name first) goal (name_at bytes R1 word) _ (name_given bytes R1 r.name word first a) (λ name b.
    given_bind (Passed bytes second) goal (sign_at bytes R1 signs.LeftParen name.1) _ (sign_given bytes R1 signs.LeftParen name.1 second b.1) (λ paren c.
    given_bind (Valued bytes r.params third) goal (params_at bytes paren) _ (params_given bytes r.params paren third (k.params, omega (arith, few)) c) (λ ps d.
    given_bind (Passed bytes fourth) goal (sign_at bytes R1 signs.LeftBrace ps.1) _ (sign_given bytes R1 signs.LeftBrace ps.1 fourth d.1) (λ inside e.
    let requires_read = requires_given bytes r.params k.params r.conditions r.commands inside [] k.few_conditions k.conditions_fit k.conditions_written e in
    let same_requires : Given (Valued bytes r.conditions fifth) (requires_at bytes ps.0 inside) =
    (requires_read.0, ap (λ (qs : List (List ℕ)). requires_at bytes qs inside) d.0 ∙ requires_read.1, requires_read.2) in
    given_bind (Valued bytes r.conditions fifth) goal (requires_at bytes ps.0 inside) _ same_requires (λ cs f.
    let commands_read = commands_given bytes r.params k.params r.commands cs.1 [] k.few_commands k.commands_fit k.commands_written f.1 in
    let same_commands : Given (Valued bytes r.commands brace) (commands_at bytes ps.0 cs.1) =
    (commands_read.0, ap (λ (qs : List (List ℕ)). commands_at bytes qs cs.1) d.0 ∙ commands_read.1, commands_read.2) in
    given_bind (Valued bytes r.commands brace) goal (commands_at bytes ps.0 cs.1) _ same_commands (λ ks g.
    given_bind (Passed bytes []) goal (sign_at bytes R1 signs.RightBrace ks.1) _ (sign_given bytes R1 signs.RightBrace ks.1 [] g.1) (λ us l.
    given_ok goal (recipe_of name.0 ps.0 cs.0 ks.0, us) (
      ap (λ (x : List ℕ). recipe_of x ps.0 cs.0 ks.0) b.0 ∙ ap (λ (x : List (List ℕ)). recipe_of r.name x cs.0 ks.0) d.0
          ∙ ap (λ (x : List Cond). recipe_of r.name r.params x ks.0) f.0 ∙ ap (recipe_of r.name r.params r.conditions) g.0,
      none_left bytes us l,
    )))))))))

pub read_back : (r : RecipeParts) → IsTrue (is_recipe r) → IsTrue (is_printable r) → IsReadAs (recipe_text r) r
read_back r h w =
    let text = recipe_text r in
    let s : Shows text (recipe_symbols r) = shown text (recipe_symbols r) (recipe_laid r h w) in
    let g = section_given text r s.0 (facts r h w) s.2 in
    let all : length s.0 - length g.0.1 ≡ length s.0 = ap (λ (us : List Token). length s.0 - length us) g.2.1 ∙ (omega arith) in
    record {
      tokens = s.0;
      lexed = s.1;
      parsed =
          ap (λ (x : Result (RecipeParts × List Token) ParseError). x >>= λ y. Ok (parsed_of y.0 (length s.0 - length y.1))) g.1
          ∙ ap (λ (p : RecipeParts). Ok (parsed_of p (length s.0 - length g.0.1))) g.2.0
          ∙ ap (λ (n : ℕ). Ok (parsed_of r n)) all;
    }

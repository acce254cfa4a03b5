-- A recipe section that was read: it is a recipe, a token was taken, and its name is a name; each refusal names a place of the text.
use Rattle.std.proofs.Common.{◌≡◌, ℕ, ◌+◌, ◌-◌, ◌≤◌, ◌^◌, true, ◌&&◌, nat_le, List, length, drop, Ok, length-drop, le-leb, arith}
use Rattle.std.specs.Bool.{IsTrue}
use Rattle.std.specs.List.{list_all}
use Rattle.std.proofs.lemmas.Bool.{and_from}
use Rattle.ch_lex.specs.Cut.{IsCut}
use Rattle.ch_lex.specs.declared.error.Code2.TheVariants.{R1}
use Rattle.ch_lex.specs.declared.error.ParseError.{ParseError}
use Rattle.ch_lex.specs.declared.error.ParseError.TheVariants.{Memory, Refused}
use Rattle.ch_lex.specs.declared.keyword.Keyword.TheVariants as words
use Rattle.ch_lex.specs.declared.token.Sign.TheVariants as signs
use Rattle.ch_lex.specs.declared.token.Token.{Token}
use Rattle.ch_nestparse.specs.Gives.{Fails}
use Rattle.ch_nestparse.specs.Inside.{IsWithin}
use Rattle.ch_nestparse.specs.Spelling.{is_name}
use Rattle.ch_nestparse.proofs.Cuts.{few_tokens}
use Rattle.ch_nestparse.proofs.Placed.{Placed, placed_bind, placed_ok}
use Rattle.ch_script.specs.Limits.{most_commands, most_conditions, most_params, most_terms}
use Rattle.ch_script.specs.Recipes.{RecipeParts, command_fits, condition_fits, is_recipe, recipe_of}
use Rattle.ch_script.specs.Sections.{section_at}
use Rattle.ch_script.specs.declared.recipe.Command.{Command}
use Rattle.ch_script.specs.declared.recipe.Cond.{Cond}
use Rattle.ch_script.specs.declared.recipe.Purpose.TheVariants as purposes
use Rattle.ch_script.proofs.CommandsFit.{commands_left, requires_left}
use Rattle.ch_script.proofs.Left.{Left, keyword_left, left_after, name_left, sign_left}
use Rattle.ch_script.proofs.NamesFit.{params_left}

parts_fit : (name : List ℕ) (ps : List (List ℕ)) (cs : List Cond) (ks : List Command) → length ps ≤ most_params → length cs ≤ most_conditions
    → list_all (condition_fits purposes.Require (length ps)) cs ≡ true → length ks ≤ most_commands → list_all (command_fits (length ps)) ks ≡ true
    → is_recipe (recipe_of name ps cs ks) ≡ true
parts_fit name ps cs ks a b c d e =
    let last : (list_all (condition_fits purposes.Require (length ps)) cs && list_all (command_fits (length ps)) ks) ≡ true = and_from (list_all (condition_fits purposes.Require (length ps)) cs) (list_all (command_fits (length ps)) ks) c e in
    and_from (nat_le (length ps) most_params) _ (le-leb (length ps) most_params a)
    (and_from (nat_le (length cs) most_conditions) _ (le-leb (length cs) most_conditions b)
    (and_from (nat_le (length ks) most_commands) _ (le-leb (length ks) most_commands d) last))

module _ (bytes : List ℕ) where
  abbrev IsSection : ℕ → RecipeParts × List Token → Type 0
  IsSection n x = (is_recipe x.0 ≡ true) × (is_name x.0.name ≡ true) × (length x.1 + 1 ≤ n)

  section_left : (n : ℕ) (ts : List Token) → n ≤ most_terms → Left bytes n ts → Placed bytes (IsSection n) (section_at bytes ts)
  unfolding section_at
  section_left n ts small h =
      placed_bind bytes (keyword_left bytes R1 words.Recipe n ts h) (λ word a.
      let fewer : n - 1 ≤ most_terms = omega (arith, small) in
      placed_bind bytes (name_left bytes R1 (n - 1) word a.1) (λ name b.
      placed_bind bytes (sign_left bytes R1 signs.LeftParen (n - 1) name.1 b.1) (λ paren c.
      placed_bind bytes (params_left bytes (n - 1) paren c) (λ ps d.
      placed_bind bytes (sign_left bytes R1 signs.LeftBrace (n - 1) ps.1 d.1) (λ inside e.
      placed_bind bytes (requires_left bytes ps.0 (n - 1) fewer inside e) (λ cs f.
      placed_bind bytes (commands_left bytes ps.0 (n - 1) fewer cs.1 f.1) (λ ks g.
      placed_bind bytes (sign_left bytes R1 signs.RightBrace (n - 1) ks.1 g.1) (λ rest k.
      let some = a.0 in let few = k.3 in
      placed_ok bytes (IsSection n) (recipe_of name.0 ps.0 cs.0 ks.0, rest)
      (parts_fit name.0 ps.0 cs.0 ks.0 d.0 f.0.0 f.0.1 g.0.0 g.0.1, b.0, omega (arith, some, few))))))))))

  from_left : (tokens : List Token) (from : ℕ) → IsCut bytes 0 tokens → Left bytes (length tokens - from) (drop from tokens)
  from_left tokens from c =
      let l = left_after bytes from (length tokens) tokens (0, omega arith, c, omega arith) in
      let d : length (drop from tokens) ≡ length tokens - from = length-drop from tokens in
      (l.0, l.1, l.2, omega (arith, d))

  whole : (tokens : List Token) (from : ℕ) → length bytes ≤ 2 ^ 20 → IsCut bytes 0 tokens → Placed bytes (IsSection (length tokens - from)) (section_at bytes (drop from tokens))
  whole tokens from short c =
      let few = few_tokens bytes tokens c in
      section_left (length tokens - from) (drop from tokens) (omega (arith, short, few)) (from_left tokens from c)

  pub section_recipe : (tokens : List Token) (from : ℕ) (r : RecipeParts) (rest : List Token) → length bytes ≤ 2 ^ 20 → IsCut bytes 0 tokens → section_at bytes (drop from tokens) ≡ Ok (r, rest)
      → IsTrue (is_recipe r)
  section_recipe tokens from r rest short c h = ((whole tokens from short c).0 (r, rest) h).0

  pub section_name : (tokens : List Token) (from : ℕ) (r : RecipeParts) (rest : List Token) → length bytes ≤ 2 ^ 20 → IsCut bytes 0 tokens → section_at bytes (drop from tokens) ≡ Ok (r, rest)
      → IsTrue (is_name r.name)
  section_name tokens from r rest short c h = ((whole tokens from short c).0 (r, rest) h).1

  pub section_taken : (tokens : List Token) (from : ℕ) (r : RecipeParts) (rest : List Token) → length bytes ≤ 2 ^ 20 → IsCut bytes 0 tokens → section_at bytes (drop from tokens) ≡ Ok (r, rest)
      → length rest + 1 ≤ length tokens - from
  section_taken tokens from r rest short c h = ((whole tokens from short c).0 (r, rest) h).2

  pub refused_inside : (tokens : List Token) (from : ℕ) (e : ParseError) → length bytes ≤ 2 ^ 20 → IsCut bytes 0 tokens → Fails e (section_at bytes (drop from tokens)) → IsWithin (length bytes) e
  refused_inside tokens from Memory short c h = tt
  refused_inside tokens from (Refused code at value) short c h = (whole tokens from short c).1 (Refused code at value) h

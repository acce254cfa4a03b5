-- A session section that was read: its name is a name, and a token was taken; each refusal names a place of the text.
use Rattle.std.proofs.Common.{◌≡◌, ℕ, ◌+◌, ◌-◌, ◌≤◌, Bool, true, false, List, [], ◌∷◌, ◌++◌, length, drop, nat_eq, Ok, arith}
use Rattle.std.specs.Bool.{IsTrue}
use Rattle.ch_grid.specs.declared.param.Param.{Param}
use Rattle.ch_grid.specs.Grid.{is_good}
use Rattle.ch_lex.specs.Cut.{IsCut}
use Rattle.ch_lex.specs.declared.error.Code2.TheVariants.{D2, D4, D5}
use Rattle.ch_lex.specs.declared.keyword.Keyword.{Keyword}
use Rattle.ch_lex.specs.declared.keyword.Keyword.TheVariants as words
use Rattle.ch_lex.specs.declared.token.Sign.TheVariants as signs
use Rattle.ch_lex.specs.declared.token.Token.{Token}
use Rattle.ch_nestparse.specs.declared.program.ParsedProgram.{ParsedProgram}
use Rattle.ch_nestparse.specs.Read.{choose, keyword_at, number_at, place, sign_at}
use Rattle.ch_nestparse.specs.Spelling.{is_name}
use Rattle.ch_nestparse.proofs.Placed.{Placed, placed_bind, placed_guarded, placed_ok}
use Rattle.ch_script.specs.Recipes.{RecipeParts}
use Rattle.ch_script.proofs.Left.{Leaves, Left, integer_left, keyword_left, left_drop, left_place, left_within, name_left, placed_map, repeated_left, sign_left}
use Rattle.ch_workload.specs.declared.error.DeckCode.TheVariants.{Plain, D13, D14}
use Rattle.ch_workload.specs.declared.error.SectionError.{SectionError}
use Rattle.ch_workload.specs.declared.error.SectionError.TheVariants.{Memory, Refused}
use Rattle.ch_workload.specs.declared.headings.Heading.{Heading}
use Rattle.ch_workload.specs.Headings.{heading_at, program_line_at, recipe_line_at}
use Rattle.ch_workload.specs.Inside.{IsWithin}
use Rattle.ch_workload.specs.Params.{begins_param, is_named, param_at, params_at, range_at}
use Rattle.ch_workload.specs.Refusals.{Fails}
use Rattle.ch_workload.specs.Admissible.{has_admissible}
use Rattle.ch_workload.specs.Sessions.{begins_repeat, closed_at, has_few_points, numbered, repeats_at, session_at, times_at}
use Rattle.ch_workload.specs.Tuned.{Tuned, are_repeats, tuned}
use Rattle.ch_workload.proofs.NamesRead.{program_left, recipe_left}
use Rattle.ch_workload.proofs.Readings.{Told, from_left, number_left, told_admitted, told_bind, told_lifted, told_ok}

module _ (bytes : List ℕ) where
  -- a keyword, which leaves no more tokens than there were
  pub word_left : (k : Keyword) (n : ℕ) (ts : List Token) → Left bytes n ts → Placed bytes (Left bytes n) (keyword_at bytes D2 k ts)
  word_left k n ts h = placed_map bytes {P = λ rest. (1 ≤ n) × Left bytes (n - 1) rest} {Q = Left bytes n} (λ rest g. left_within bytes (n - 1) n rest (omega arith) g.1) (keyword_left bytes D2 k n ts h)

  -- parameters

  range_left : (n : ℕ) (ts : List Token) → Left bytes n ts → Leaves bytes (λ (p : Param). Unit {0}) n (range_at bytes ts)
  unfolding range_at
  range_left n ts h =
      placed_bind bytes (sign_left bytes D2 signs.Equals n ts h) (λ equals a.
      placed_bind bytes (integer_left bytes D2 n equals a) (λ low b.
      placed_bind bytes (word_left words.To n low.1 b.1) (λ upto c.
      placed_bind bytes (integer_left bytes D2 n upto c) (λ high d.
      placed_bind bytes (word_left words.Step n high.1 d.1) (λ each e.
      placed_bind bytes (integer_left bytes D2 n each e) (λ step f.
      placed_ok bytes (λ x. Unit {0} × Left bytes n x.1) (record { low = low.0; high = high.0; step = step.0 }, step.1) (tt, f.1)))))))

  param_left : (n : ℕ) (names : List (List ℕ)) (found : List Param) (ts : List Token) → Left bytes n ts → Placed bytes (λ x. Left bytes n x.1) (param_at bytes names found ts)
  unfolding param_at
  param_left n names found ts h =
      placed_bind bytes (word_left words.Param n ts h) (λ word a.
      let here = left_place bytes n word a in
      placed_bind bytes (name_left bytes D2 n word a) (λ name b.
      placed_bind bytes (placed_guarded bytes (is_named names (length found) name.0) D4 (place bytes word) (λ _. Ok name.1) here (placed_ok bytes (Left bytes n) name.1 b.1)) (λ next c.
      placed_bind bytes (range_left n next c) (λ range d.
      placed_bind bytes (placed_guarded bytes (is_good range.0) D5 (place bytes word) (λ _. Ok range.1) here (placed_ok bytes (Left bytes n) range.1 d.1)) (λ good e.
      placed_bind bytes (sign_left bytes D2 signs.Semicolon n good e) (λ rest f.
      placed_ok bytes (λ x. Left bytes n x.1) (found ++ range.0 ∷ [], rest) f))))))

  params_left : (n : ℕ) (names : List (List ℕ)) (ts : List Token) → Left bytes n ts → Placed bytes (λ x. Left bytes n x.1) (params_at bytes names ts)
  unfolding params_at
  params_left n names ts h =
      repeated_left bytes (λ found us. Left bytes n us) (begins_param bytes) (param_at bytes names) (param_left n names) (length names + 1) [] ts h

  -- headings

  program_line_left : (n : ℕ) (programs : List ParsedProgram) (ts : List Token) → Left bytes n ts → Placed bytes (λ x. Left bytes n x.1) (program_line_at bytes programs ts)
  unfolding program_line_at
  program_line_left n programs ts h =
      placed_bind bytes (word_left words.Program n ts h) (λ word a.
      placed_bind bytes (program_left bytes n programs word a) (λ program b.
      placed_bind bytes (sign_left bytes D2 signs.Semicolon n program.1 b.1) (λ rest c.
      placed_ok bytes (λ x. Left bytes n x.1) (program.0, rest) c)))

  recipe_line_left : (n : ℕ) (recipes : List RecipeParts) (ts : List Token) → Left bytes n ts → Placed bytes (λ x. Left bytes n x.1) (recipe_line_at bytes recipes ts)
  unfolding recipe_line_at
  recipe_line_left n recipes ts h =
      placed_bind bytes (word_left words.Recipe n ts h) (λ word a.
      placed_bind bytes (recipe_left bytes n recipes word a) (λ recipe b.
      placed_bind bytes (sign_left bytes D2 signs.Semicolon n recipe.1 b.1) (λ rest c.
      placed_ok bytes (λ x. Left bytes n x.1) (recipe.0, rest) c)))

  abbrev IsBegun : ℕ → Heading × List Token → Type 0
  IsBegun n x = (is_name x.0.name ≡ true) × (1 ≤ n) × Left bytes (n - 1) x.1

  heading_left : (n : ℕ) (programs : List ParsedProgram) (recipes : List RecipeParts) (ts : List Token) → Left bytes n ts → Placed bytes (IsBegun n) (heading_at bytes programs recipes ts)
  unfolding heading_at
  heading_left n programs recipes ts h =
      placed_bind bytes (keyword_left bytes D2 words.Session n ts h) (λ word a.
      placed_bind bytes (name_left bytes D2 (n - 1) word a.1) (λ name b.
      placed_bind bytes (sign_left bytes D2 signs.LeftBrace (n - 1) name.1 b.1) (λ inside c.
      placed_bind bytes (program_line_left (n - 1) programs inside c) (λ program d.
      placed_bind bytes (recipe_line_left (n - 1) recipes program.1 d) (λ recipe e.
      placed_ok bytes (IsBegun n) (record { name = name.0; program = program.0; recipe = recipe.0 }, recipe.1) (b.0, a.0, e))))))

  -- sections

  times_told : (n : ℕ) (ts : List Token) → Left bytes n ts → Told bytes (λ x. Left bytes n x.1) (times_at bytes ts)
  unfolding times_at
  times_told n ts h =
      told_bind bytes (told_lifted bytes _ (number_at bytes D2 ts) (number_left bytes D2 n ts h)) (λ times a.
      told_bind bytes (told_admitted bytes (Left bytes n) (are_repeats times.0) D13 (place bytes ts) times.1 (left_place bytes n ts h) (λ _. a.1)) (λ few b.
      told_bind bytes (told_lifted bytes _ (sign_at bytes D2 signs.Semicolon few) (sign_left bytes D2 signs.Semicolon n few b)) (λ rest c.
      told_ok bytes (λ x. Left bytes n x.1) (times.0, rest) c)))

  repeats_by : (n : ℕ) (more : Bool) (ts : List Token) → Left bytes n ts → Told bytes (λ x. Left bytes n x.1) (choose more (λ _. times_at bytes (drop 1 ts)) (λ _. Ok (1, ts)))
  repeats_by n true ts h = times_told n (drop 1 ts) (left_drop bytes n ts h)
  repeats_by n false ts h = told_ok bytes (λ x. Left bytes n x.1) (1, ts) h

  repeats_told : (n : ℕ) (ts : List Token) → Left bytes n ts → Told bytes (λ x. Left bytes n x.1) (repeats_at bytes ts)
  unfolding repeats_at
  repeats_told n ts h = repeats_by n (begins_repeat bytes ts) ts h

  closed_told : (n : ℕ) (recipe : RecipeParts) (params : List Param) (ts : List Token) → Left bytes n ts → Told bytes (λ x. Left bytes n x.1) (closed_at bytes recipe params ts)
  unfolding closed_at
  closed_told n recipe params ts h =
      let here = left_place bytes n ts h in
      told_bind bytes (told_lifted bytes _ (sign_at bytes D2 signs.RightBrace ts) (sign_left bytes D2 signs.RightBrace n ts h)) (λ rest a.
      told_bind bytes (told_admitted bytes (Left bytes n) (nat_eq (length params) (length recipe.params)) (Plain D4) (place bytes ts) rest here (λ _. a)) (λ whole b.
      told_bind bytes (told_admitted bytes (Left bytes n) (has_few_points params) (Plain D5) (place bytes ts) whole here (λ _. b)) (λ few c.
      told_bind bytes (told_admitted bytes (Left bytes n) (has_admissible recipe.conditions params) D14 (place bytes ts) few here (λ _. c)) (λ useful d.
      told_ok bytes (λ x. Left bytes n x.1) (params, useful) d))))

  abbrev IsSection : ℕ → Tuned × List Token → Type 0
  IsSection n x = (is_name x.0.name ≡ true) × (length x.1 + 1 ≤ n)

  section_told : (n : ℕ) (programs : List ParsedProgram) (recipes : List RecipeParts) (ts : List Token) → Left bytes n ts → Told bytes (IsSection n) (session_at bytes programs recipes ts)
  unfolding session_at
  section_told n programs recipes ts h =
      told_bind bytes (told_lifted bytes (IsBegun n) (heading_at bytes programs recipes ts) (heading_left n programs recipes ts h)) (λ heading a.
      told_bind bytes (told_lifted bytes _ (params_at bytes (numbered recipes heading.0.recipe).params heading.1) (params_left (n - 1) (numbered recipes heading.0.recipe).params heading.1 a.2)) (λ params b.
      told_bind bytes (repeats_told (n - 1) params.1 b) (λ repeats c.
      told_bind bytes (closed_told (n - 1) (numbered recipes heading.0.recipe) params.0 repeats.1 c) (λ closed d.
      let some = a.1 in let few = d.3 in
      told_ok bytes (IsSection n) (tuned heading.0.name heading.0.program heading.0.recipe closed.0 repeats.0, closed.1)
      (a.0, omega (arith, some, few))))))

  whole : (programs : List ParsedProgram) (recipes : List RecipeParts) (tokens : List Token) (from : ℕ) → IsCut bytes 0 tokens → Told bytes (IsSection (length tokens - from)) (session_at bytes programs recipes (drop from tokens))
  whole programs recipes tokens from c = section_told (length tokens - from) programs recipes (drop from tokens) (from_left bytes tokens from c)

  pub session_name : (programs : List ParsedProgram) (recipes : List RecipeParts) (tokens : List Token) (from : ℕ) (s : Tuned) (rest : List Token) → IsCut bytes 0 tokens
      → session_at bytes programs recipes (drop from tokens) ≡ Ok (s, rest) → IsTrue (is_name s.name)
  session_name programs recipes tokens from s rest c h = ((whole programs recipes tokens from c).gives (s, rest) h).0

  pub session_taken : (programs : List ParsedProgram) (recipes : List RecipeParts) (tokens : List Token) (from : ℕ) (s : Tuned) (rest : List Token) → IsCut bytes 0 tokens
      → session_at bytes programs recipes (drop from tokens) ≡ Ok (s, rest) → length rest + 1 ≤ length tokens - from
  session_taken programs recipes tokens from s rest c h = ((whole programs recipes tokens from c).gives (s, rest) h).1

  pub session_inside : (programs : List ParsedProgram) (recipes : List RecipeParts) (tokens : List Token) (from : ℕ) (e : SectionError) → IsCut bytes 0 tokens
      → Fails e (session_at bytes programs recipes (drop from tokens)) → IsWithin (length bytes) e
  session_inside programs recipes tokens from Memory c h = tt
  session_inside programs recipes tokens from (Refused code at value) c h = (whole programs recipes tokens from c).refuses (Refused code at value) h

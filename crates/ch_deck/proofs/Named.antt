-- The name of a section that was read is the text behind its first word, and what was judged of it.
use Rattle.std.proofs.Common.{◌≡◌, ℕ, ◌+◌, Bool, true, false, not, nat_lt, List, [], length, drop, Result, Ok, Err, refl, subst}
use Rattle.std.proofs.lemmas.Bool.{ltb-true}
use Rattle.std.proofs.lemmas.List.{drop-drop}
use Rattle.ch_lex.specs.declared.error.Code2.{Code2}
use Rattle.ch_lex.specs.declared.error.Code2.TheVariants.{P1, R1, D2, D3, D6}
use Rattle.ch_lex.specs.declared.error.ParseError.{ParseError}
use Rattle.ch_lex.specs.declared.keyword.Keyword.{Keyword}
use Rattle.ch_lex.specs.declared.keyword.Keyword.TheVariants as words
use Rattle.ch_lex.specs.declared.token.Sign.TheVariants as signs
use Rattle.ch_lex.specs.declared.token.Token.{Token}
use Rattle.ch_nest.specs.Limits.{deepest, most_conditions}
use Rattle.ch_nestparse.specs.Declarations.{arrays_at, lets_at}
use Rattle.ch_nestparse.specs.Items.{item_at, items_at}
use Rattle.ch_nestparse.specs.declared.ahead.Look.{Look}
use Rattle.ch_nestparse.specs.declared.ahead.Look.TheVariants as looks
use Rattle.ch_nestparse.specs.declared.program.ParsedProgram.{ParsedProgram}
use Rattle.ch_nestparse.specs.Read.{begins, choose, keyword_at, name_at, name_if, place, seen, sign_at, text_at}
use Rattle.ch_nestparse.specs.Accesses.{accesses_in}
use Rattle.ch_nestparse.specs.Sections.{before, program_at, section_at}
use Rattle.ch_nestparse.proofs.Posts.{Post, post_bind, post_err, post_guarded, post_ok}
use Rattle.ch_script.specs.Commands.{commands_at, requires_at}
use Rattle.ch_script.specs.Names.{params_at}
use Rattle.ch_script.specs.Recipes.{RecipeParts, recipe_of}
use Rattle.ch_script.specs.Sections as recipes
use Rattle.ch_workload.specs.Calls.{calls_at}
use Rattle.ch_workload.specs.Clients as clients
use Rattle.ch_workload.specs.Fills.{fills_at}
use Rattle.ch_workload.specs.Headings.{heading_at, program_line_at, recipe_line_at}
use Rattle.ch_workload.specs.Machines.{machine_at}
use Rattle.ch_workload.specs.Params.{params_at as ranges_at}
use Rattle.ch_workload.specs.Refusals.{◌>>=◌, admitted, lifted}
use Rattle.ch_workload.specs.Sessions as sessions
use Rattle.ch_workload.specs.Tuned.{Tuned, tuned}
use Rattle.ch_workload.specs.declared.error.DeckCode.TheVariants.{Plain}
use Rattle.ch_workload.specs.declared.error.SectionError.{SectionError}
use Rattle.ch_deck.specs.Programs.{has_name}
use Rattle.ch_deck.specs.Sections.{looks_named, named_at}
use Rattle.ch_deck.proofs.Names.{IsNew}

post_any : {X : Type 0} (r : Result X ParseError) → Post (λ _. Unit {0}) r
post_any r = λ x e. tt

keyword_next : (bytes : List ℕ) (code : Code2) (k : Keyword) (ts : List Token) → Post (λ rest. rest ≡ drop 1 ts) (keyword_at bytes code k ts)
unfolding keyword_at
keyword_next bytes code k ts = post_guarded (begins bytes k ts) code (place bytes ts) (λ _. Ok (drop 1 ts)) (λ _. post_ok (λ rest. rest ≡ drop 1 ts) (drop 1 ts) refl)

name_by : (look : Look) (code : Code2) (at : ℕ) (text : List ℕ) (ts : List Token) → Post (λ n. (looks_named look ≡ true) × (n.0 ≡ text)) (name_if look code at text ts)
name_by looks.Name code at text ts = post_ok (λ n. (true ≡ true) × (n.0 ≡ text)) (text, ts) (refl, refl)
name_by (looks.Keyword k) code at text ts = post_err _ _
name_by (looks.Number n) code at text ts = post_err _ _
name_by (looks.Sign s) code at text ts = post_err _ _
name_by looks.End code at text ts = post_err _ _

name_next : (bytes : List ℕ) (code : Code2) (ts : List Token) → Post (λ n. (looks_named (seen bytes ts) ≡ true) × (n.0 ≡ text_at bytes ts)) (name_at bytes code ts)
unfolding name_at
name_next bytes code ts = name_by (seen bytes ts) code (place bytes ts) (text_at bytes ts) (drop 1 ts)

-- the name is that of the next token
abbrev pub Named : List ℕ → List Token → List ℕ → Type 0
Named bytes ts name = (looks_named (seen bytes ts) ≡ true) × (name ≡ text_at bytes ts)

section_named : (bytes : List ℕ) (ts : List Token) → Post (λ r. Named bytes (drop 1 ts) r.0.name) (section_at bytes ts)
unfolding section_at
section_named bytes ts =
    post_bind (keyword_next bytes P1 words.Program ts) (λ word a.
    post_bind (name_next bytes P1 word) (λ (name : List ℕ × List Token) b.
    post_bind (post_any (sign_at bytes P1 signs.LeftBrace name.1)) (λ inside c.
    post_bind (post_any (lets_at bytes inside)) (λ lets d.
    post_bind (post_any (arrays_at bytes lets.0 lets.1)) (λ declared e.
    post_bind (post_any (items_at bytes (item_at bytes most_conditions deepest declared.0.names []) ([], 0) declared.1)) (λ items f.
    post_ok (λ r. Named bytes (drop 1 ts) r.0.name)
    (record { name = name.0; nest = record { arrays = declared.0.arrays; items = items.0.0 }; fills = declared.0.fills; accesses = accesses_in bytes (before items.1 declared.1) }, items.1)
    (subst (λ w. Named bytes w name.0) a b)))))))

pub program_named : (bytes : List ℕ) (tokens : List Token) (from : ℕ) → Post (λ p. Named bytes (drop (from + 1) tokens) p.name) (program_at bytes tokens from)
program_named bytes tokens from =
    post_bind (section_named bytes (drop from tokens)) (λ x h.
    post_ok (λ p. Named bytes (drop (from + 1) tokens) p.name) _ (rw (drop-drop 1 from tokens) at h))

recipe_section_named : (bytes : List ℕ) (ts : List Token) → Post (λ r. Named bytes (drop 1 ts) r.0.name) (recipes.section_at bytes ts)
unfolding recipes.section_at
recipe_section_named bytes ts =
    post_bind (keyword_next bytes R1 words.Recipe ts) (λ word a.
    post_bind (name_next bytes R1 word) (λ (name : List ℕ × List Token) b.
    post_bind (post_any (sign_at bytes R1 signs.LeftParen name.1)) (λ paren c.
    post_bind (post_any (params_at bytes paren)) (λ params d.
    post_bind (post_any (sign_at bytes R1 signs.LeftBrace params.1)) (λ inside e.
    post_bind (post_any (requires_at bytes params.0 inside)) (λ conditions f.
    post_bind (post_any (commands_at bytes params.0 conditions.1)) (λ commands g.
    post_bind (post_any (sign_at bytes R1 signs.RightBrace commands.1)) (λ rest h.
    post_ok (λ r. Named bytes (drop 1 ts) r.0.name) (recipe_of name.0 params.0 conditions.0 commands.0, rest) (subst (λ w. Named bytes w name.0) a b)))))))))

pub recipe_named : (bytes : List ℕ) (tokens : List Token) (from : ℕ) → Post (λ r. Named bytes (drop (from + 1) tokens) r.recipe.name) (recipes.recipe_at bytes tokens from)
recipe_named bytes tokens from =
    post_bind (recipe_section_named bytes (drop from tokens)) (λ x h.
    post_ok (λ r. Named bytes (drop (from + 1) tokens) r.recipe.name) _ (rw (drop-drop 1 from tokens) at h))

client_section_named : (bytes : List ℕ) (programs : List ParsedProgram) (ss : List Tuned) (ts : List Token) → Post (λ r. Named bytes (drop 1 ts) r.0.name) (clients.client_at bytes programs ss ts)
unfolding clients.client_at
client_section_named bytes programs ss ts =
    post_bind (keyword_next bytes D2 words.Client ts) (λ word a.
    post_bind (name_next bytes D2 word) (λ (name : List ℕ × List Token) b.
    post_bind (post_any (clients.patience_at bytes name.1)) (λ patient c.
    post_bind (post_any (machine_at bytes patient.1)) (λ machine d.
    post_bind (post_any (sign_at bytes D2 signs.LeftBrace machine.1)) (λ inside e.
    post_bind (post_any (fills_at bytes programs inside)) (λ fills f.
    post_bind (post_any (calls_at bytes ss fills.1)) (λ calls g.
    post_bind (post_any (sign_at bytes D2 signs.RightBrace calls.1)) (λ rest h.
    post_ok (λ r. Named bytes (drop 1 ts) r.0.name) (record { name = name.0; patient = patient.0; machine = machine.0; fills = fills.0; calls = calls.0.calls }, rest)
    (subst (λ w. Named bytes w name.0) a b)))))))))

pub client_named : (bytes : List ℕ) (programs : List ParsedProgram) (ss : List Tuned) (tokens : List Token) (from : ℕ)
    → Post (λ c. Named bytes (drop (from + 1) tokens) c.client.name) (clients.section_at bytes programs ss tokens from)
client_named bytes programs ss tokens from =
    post_bind (client_section_named bytes programs ss (drop from tokens)) (λ x h.
    post_ok (λ c. Named bytes (drop (from + 1) tokens) c.client.name) _ (rw (drop-drop 1 from tokens) at h))

-- sessions

heading_named : (bytes : List ℕ) (programs : List ParsedProgram) (rs : List RecipeParts) (ts : List Token) → Post (λ r. Named bytes (drop 1 ts) r.0.name) (heading_at bytes programs rs ts)
unfolding heading_at
heading_named bytes programs rs ts =
    post_bind (keyword_next bytes D2 words.Session ts) (λ word a.
    post_bind (name_next bytes D2 word) (λ (name : List ℕ × List Token) b.
    post_bind (post_any (sign_at bytes D2 signs.LeftBrace name.1)) (λ inside c.
    post_bind (post_any (program_line_at bytes programs inside)) (λ program d.
    post_bind (post_any (recipe_line_at bytes rs program.1)) (λ recipe e.
    post_ok (λ r. Named bytes (drop 1 ts) r.0.name) (record { name = name.0; program = program.0; recipe = recipe.0 }, recipe.1) (subst (λ w. Named bytes w name.0) a b))))))

-- whatever a reading of a section gives has the property
abbrev Gives : {X : Type 0} → (X → Type 0) → Result X SectionError → Type 0
Gives {X = X} P r = (x : X) → r ≡ Ok x → P x

gives_ok : {X : Type 0} (P : X → Type 0) (x : X) → P x → Gives P (Ok x)
gives_ok P x p y e = let s : x ≡ y = cc in subst P s p

gives_bind : {A B : Type 0} {P : A → Type 0} {Q : B → Type 0} {r : Result A SectionError} {f : A → Result B SectionError} → Gives P r → ((x : A) → P x → Gives Q (f x)) → Gives Q (r >>= f)
gives_bind {r = Ok x} p q y h = q x (p x refl) y h
gives_bind {r = Err e} p q y h = absurd cc

gives_any : {X : Type 0} (r : Result X SectionError) → Gives (λ _. Unit {0}) r
gives_any r = λ x e. tt

gives_lifted : {X : Type 0} (P : X → Type 0) (r : Result X ParseError) → Post P r → Gives P (lifted r)
gives_lifted P (Ok x) p = gives_ok P x (p x refl)
gives_lifted P (Err e) p = λ y h. absurd cc

session_section_named : (bytes : List ℕ) (programs : List ParsedProgram) (rs : List RecipeParts) (ts : List Token) → Gives (λ r. Named bytes (drop 1 ts) r.0.name) (sessions.session_at bytes programs rs ts)
unfolding sessions.session_at
session_section_named bytes programs rs ts =
    gives_bind (gives_lifted (λ r. Named bytes (drop 1 ts) r.0.name) (heading_at bytes programs rs ts) (heading_named bytes programs rs ts)) (λ heading a.
    gives_bind (gives_any (lifted (ranges_at bytes (sessions.numbered rs heading.0.recipe).params heading.1))) (λ params b.
    gives_bind (gives_any (sessions.repeats_at bytes params.1)) (λ repeats c.
    gives_bind (gives_any (sessions.closed_at bytes (sessions.numbered rs heading.0.recipe) params.0 repeats.1)) (λ closed d.
    gives_ok (λ r. Named bytes (drop 1 ts) r.0.name) (tuned heading.0.name heading.0.program heading.0.recipe closed.0 repeats.0, closed.1) a))))

pub session_named : (bytes : List ℕ) (programs : List ParsedProgram) (rs : List RecipeParts) (tokens : List Token) (from : ℕ)
    → Gives (λ s. Named bytes (drop (from + 1) tokens) s.session.name) (sessions.section_at bytes programs rs tokens from)
session_named bytes programs rs tokens from =
    gives_bind (session_section_named bytes programs rs (drop from tokens)) (λ x h.
    gives_ok (λ s. Named bytes (drop (from + 1) tokens) s.session.name) _ (rw (drop-drop 1 from tokens) at h))

-- what was judged of a name

new_by : (has few : Bool) (at : ℕ) → (admitted (not has) (Plain D3) at (tt {0}) >>= λ _. admitted few (Plain D6) at (tt {0})) ≡ Ok (tt {0}) → (has ≡ false) × (few ≡ true)
new_by true few at h = absurd cc
new_by false true at h = (refl, refl)
new_by false false at h = absurd cc

new_if : (look : Bool) (has few : Bool) (at : ℕ) → look ≡ true
    → choose look (λ _. (admitted (not has) (Plain D3) at (tt {0}) >>= λ _. admitted few (Plain D6) at (tt {0}))) (λ _. Ok (tt {0})) ≡ Ok (tt {0}) → (has ≡ false) × (few ≡ true)
new_if true has few at e h = new_by has few at h
new_if false has few at e h = absurd cc

pub named_new : (bytes : List ℕ) (names : List (List ℕ)) (most : ℕ) (ts : List Token) (name : List ℕ) → named_at bytes names most ts ≡ Ok (tt {0}) → Named bytes ts name → IsNew most names name
unfolding named_at
named_new bytes names most ts name h n =
    let p = new_if (looks_named (seen bytes ts)) (has_name (text_at bytes ts) names) (nat_lt (length names) most) (place bytes ts) n.0 h in
    record {
      other = rw (n.1) p.0;
      room = ltb-true (length names) most p.1;
    }

-- One section more: what is known of those that were found.
use Rattle.std.proofs.Common.{◌≡◌, ℕ, zero, suc, ◌+◌, ◌<◌, ◌≤◌, Bool, true, false, ◌&&◌, nat_lt, nat_le, List, [], ◌∷◌, ◌++◌, length, length-append, slice_get, Ok, refl, sym, subst, lt-ltb, arith}
use Rattle.std.specs.Bool.{IsTrue}
use Rattle.std.specs.List.{list_all}
use Rattle.std.specs.Option.{option_map_or}
use Rattle.std.specs.Prelude.{slice_index_or}
use Rattle.std.proofs.lemmas.Bool.{and_from, and_parts, ltb-true}
use Rattle.std.proofs.lemmas.List.{length-map}
use Rattle.std.proofs.lemmas.List.Elements.{All-push}
use Rattle.std.proofs.lemmas.List.Folds.{list_all-append}
use Rattle.ch_lex.specs.declared.token.Token.{Token}
use Rattle.ch_nestparse.specs.declared.program.ParsedProgram.{ParsedProgram}
use Rattle.ch_nestparse.specs.Sections.{program_at}
use Rattle.ch_nestparse.specs.Spelling.{is_fill, is_name}
use Rattle.ch_script.specs.Recipes.{RecipeParts}
use Rattle.ch_script.specs.Sections.{recipe_at}
use Rattle.ch_script.specs.declared.section.ParsedRecipe.{ParsedRecipe}
use Rattle.ch_workload.specs.Calls.{call_fits, total_of}
use Rattle.ch_workload.specs.Clients as clients
use Rattle.ch_workload.specs.Clients.{array_counts, client_fits}
use Rattle.ch_workload.specs.Fills.{fill_fits, fills_differ}
use Rattle.ch_workload.specs.Limits.{most_calls}
use Rattle.ch_workload.specs.Sessions as sessions
use Rattle.ch_workload.specs.Sessions.{grid_fits, session_fits}
use Rattle.ch_workload.specs.Tuned.{Tuned}
use Rattle.ch_workload.specs.declared.calls.CallDecl.{CallDecl}
use Rattle.ch_workload.specs.declared.client.ParsedClient.{ParsedClient}
use Rattle.ch_workload.specs.declared.client.Script.{Script}
use Rattle.ch_workload.specs.declared.fills.ClientFill.{ClientFill}
use Rattle.ch_workload.specs.declared.session.ParsedSession.{ParsedSession}
use Rattle.ch_deck.specs.declared.found.Found.{Found}
use Rattle.ch_deck.specs.Kept.{AreFound, IsRead}
use Rattle.ch_deck.specs.Limits.{most_clients, most_programs, most_recipes, most_sessions}
use Rattle.ch_deck.specs.Sections.{behind_word, client_names, named_at, program_names, recipe_names, session_names, with_client, with_program, with_recipe, with_session}
use Rattle.ch_deck.proofs.Named.{client_named, named_new, program_named, recipe_named, session_named}
use Rattle.ch_deck.proofs.Names.{counts_push, named_push}

-- what fits goes on to fit

all_weaker : {X : Type 0} (p q : X → Bool) → ((x : X) → p x ≡ true → q x ≡ true) → (xs : List X) → list_all p xs ≡ true → list_all q xs ≡ true
all_weaker p q f [] h = refl
all_weaker p q f (x ∷ xs) h =
    let a = and_parts (p x) (list_all p xs) h in
    and_from (q x) (list_all q xs) (f x a.0) (all_weaker p q f xs a.1)

below_more : (k n : ℕ) → nat_lt k n ≡ true → nat_lt k (n + 1) ≡ true
below_more k n h = let l : k < n = ltb-true k n h in lt-ltb k (n + 1) (omega (arith, l))

there_more : (p : RecipeParts → Bool) (rs more : List RecipeParts) (k : ℕ) → option_map_or p (slice_get rs k) false ≡ true → option_map_or p (slice_get (rs ++ more) k) false ≡ true
there_more p [] more k h = absurd cc
there_more p (r ∷ rs) more zero h = h
there_more p (r ∷ rs) more (suc k) h = there_more p rs more k h

count_more : (xs ys : List ℕ) (k a : ℕ) → nat_lt a (slice_index_or xs k 0) ≡ true → nat_lt a (slice_index_or (xs ++ ys) k 0) ≡ true
count_more [] ys k a h = absurd (none a h)
  where
    none : (b : ℕ) → nat_lt b 0 ≡ true → ⊥
    none b g = let l : b < 0 = ltb-true b 0 g in omega (arith, l)
count_more (x ∷ xs) ys zero a h = h
count_more (x ∷ xs) ys (suc k) a h = count_more xs ys k a h

session_program : (n : ℕ) (rs : List RecipeParts) (s : Tuned) → session_fits n rs s ≡ true → session_fits (n + 1) rs s ≡ true
session_program n rs s h =
    let a = and_parts (nat_lt s.program n) (option_map_or (grid_fits s.params) (slice_get rs s.recipe) false) h in
    and_from (nat_lt s.program (n + 1)) (option_map_or (grid_fits s.params) (slice_get rs s.recipe) false) (below_more s.program n a.0) a.1

session_recipe : (n : ℕ) (rs : List RecipeParts) (r : RecipeParts) (s : Tuned) → session_fits n rs s ≡ true → session_fits n (rs ++ r ∷ []) s ≡ true
session_recipe n rs r s h =
    let a = and_parts (nat_lt s.program n) (option_map_or (grid_fits s.params) (slice_get rs s.recipe) false) h in
    and_from (nat_lt s.program n) (option_map_or (grid_fits s.params) (slice_get (rs ++ r ∷ []) s.recipe) false) a.0 (there_more (grid_fits s.params) rs (r ∷ []) s.recipe a.1)

fill_more : (xs : List ℕ) (x : ℕ) (f : ClientFill) → fill_fits xs f ≡ true → fill_fits (xs ++ x ∷ []) f ≡ true
fill_more xs x f h =
    let a = and_parts (nat_lt f.array (slice_index_or xs f.program 0)) (is_fill f.fill) h in
    and_from (nat_lt f.array (slice_index_or (xs ++ x ∷ []) f.program 0)) (is_fill f.fill) (count_more xs (x ∷ []) f.program f.array a.0) a.1

call_more : (n : ℕ) (c : CallDecl) → call_fits n c ≡ true → call_fits (n + 1) c ≡ true
call_more n c h =
    let a = and_parts (nat_lt c.session n) (nat_le 1 c.times) h in
    and_from (nat_lt c.session (n + 1)) (nat_le 1 c.times) (below_more c.session n a.0) a.1

client_program : (xs : List ℕ) (x n : ℕ) (c : Script) → client_fits xs n c ≡ true → client_fits (xs ++ x ∷ []) n c ≡ true
client_program xs x n c h =
    let a = and_parts (list_all (fill_fits xs) c.fills && fills_differ c.fills) _ h in
    let b = and_parts (list_all (fill_fits xs) c.fills) (fills_differ c.fills) a.0 in
    and_from (list_all (fill_fits (xs ++ x ∷ [])) c.fills && fills_differ c.fills) _
    (and_from (list_all (fill_fits (xs ++ x ∷ [])) c.fills) (fills_differ c.fills) (all_weaker (fill_fits xs) (fill_fits (xs ++ x ∷ [])) (fill_more xs x) c.fills b.0) b.1) a.1

client_session : (xs : List ℕ) (n : ℕ) (c : Script) → client_fits xs n c ≡ true → client_fits xs (n + 1) c ≡ true
client_session xs n c h =
    let a = and_parts (list_all (fill_fits xs) c.fills && fills_differ c.fills) _ h in
    let b = and_parts (list_all (call_fits n) c.calls) (nat_le 1 (length c.calls) && nat_le (total_of c.calls) most_calls) a.1 in
    and_from (list_all (fill_fits xs) c.fills && fills_differ c.fills) _ a.0
    (and_from (list_all (call_fits (n + 1)) c.calls) (nat_le 1 (length c.calls) && nat_le (total_of c.calls) most_calls) (all_weaker (call_fits n) (call_fits (n + 1)) (call_more n) c.calls b.0) b.1)

one_more : {X : Type 0} (xs : List X) (x : X) → length xs + 1 ≡ length (xs ++ x ∷ [])
one_more xs x = let e = length-append xs (x ∷ []) in omega (arith, e)

-- sections

pub program_kept : (bytes : List ℕ) (tokens : List Token) (f : Found) (p : ParsedProgram) (at : ℕ) → AreFound f
    → named_at bytes (program_names f.programs) most_programs (behind_word tokens f) ≡ Ok (tt {0}) → program_at bytes tokens f.next ≡ Ok p → IsTrue (is_name p.name) → IsRead p
    → AreFound (with_program f p at)
program_kept bytes tokens f p at a new is called read =
    let name = named_new bytes (program_names f.programs) most_programs (behind_word tokens f) p.name new (program_named bytes tokens f.next p is) in
    record {
      programs = named_push (λ (q : ParsedProgram). q.name) most_programs f.programs p a.programs name called;
      recipes = a.recipes;
      sessions = a.sessions;
      clients = a.clients;
      placed = let l = a.placed in let m = length-append f.places (at ∷ []) in let n = length-append f.programs (p ∷ []) in omega (arith, l, m, n);
      read = All-push IsRead f.programs p a.read read;
      tuned = subst (λ n. IsTrue (list_all (session_fits n f.recipes) f.sessions)) (one_more f.programs p)
          (all_weaker (session_fits (length f.programs) f.recipes) (session_fits (length f.programs + 1) f.recipes) (session_program (length f.programs) f.recipes) f.sessions a.tuned);
      called = subst (λ xs. IsTrue (list_all (client_fits xs (length f.sessions)) f.clients)) (sym (counts_push (λ (q : ParsedProgram). length q.nest.arrays) f.programs p))
          (all_weaker (client_fits (array_counts f.programs) (length f.sessions)) (client_fits (array_counts f.programs ++ length p.nest.arrays ∷ []) (length f.sessions))
          (client_program (array_counts f.programs) (length p.nest.arrays) (length f.sessions)) f.clients a.called);
    }

pub recipe_kept : (bytes : List ℕ) (tokens : List Token) (f : Found) (r : ParsedRecipe) → AreFound f
    → named_at bytes (recipe_names f.recipes) most_recipes (behind_word tokens f) ≡ Ok (tt {0}) → recipe_at bytes tokens f.next ≡ Ok r → IsTrue (is_name r.recipe.name)
    → AreFound (with_recipe f r.recipe r.next)
recipe_kept bytes tokens f r a new is called =
    let name = named_new bytes (recipe_names f.recipes) most_recipes (behind_word tokens f) r.recipe.name new (recipe_named bytes tokens f.next r is) in
    record {
      programs = a.programs;
      recipes = named_push (λ (q : RecipeParts). q.name) most_recipes f.recipes r.recipe a.recipes name called;
      sessions = a.sessions;
      clients = a.clients;
      placed = a.placed;
      read = a.read;
      tuned = all_weaker (session_fits (length f.programs) f.recipes) (session_fits (length f.programs) (f.recipes ++ r.recipe ∷ [])) (session_recipe (length f.programs) f.recipes r.recipe) f.sessions a.tuned;
      called = a.called;
    }

pub session_kept : (bytes : List ℕ) (tokens : List Token) (f : Found) (s : ParsedSession) → AreFound f
    → named_at bytes (session_names f.sessions) most_sessions (behind_word tokens f) ≡ Ok (tt {0}) → sessions.section_at bytes f.programs f.recipes tokens f.next ≡ Ok s → IsTrue (is_name s.session.name)
    → IsTrue (session_fits (length f.programs) f.recipes s.session) → AreFound (with_session f s.session s.next)
session_kept bytes tokens f s a new is called fits =
    let name = named_new bytes (session_names f.sessions) most_sessions (behind_word tokens f) s.session.name new (session_named bytes f.programs f.recipes tokens f.next s is) in
    let before : list_all (session_fits (length f.programs) f.recipes) f.sessions ≡ true = a.tuned in
    let here : session_fits (length f.programs) f.recipes s.session ≡ true = fits in
    record {
      programs = a.programs;
      recipes = a.recipes;
      sessions = named_push (λ (q : Tuned). q.name) most_sessions f.sessions s.session a.sessions name called;
      clients = a.clients;
      placed = a.placed;
      read = a.read;
      tuned = rw (list_all-append, before, here) refl;
      called = subst (λ n. IsTrue (list_all (client_fits (array_counts f.programs) n) f.clients)) (one_more f.sessions s.session)
          (all_weaker (client_fits (array_counts f.programs) (length f.sessions)) (client_fits (array_counts f.programs) (length f.sessions + 1))
          (client_session (array_counts f.programs) (length f.sessions)) f.clients a.called);
    }

pub client_kept : (bytes : List ℕ) (tokens : List Token) (f : Found) (c : ParsedClient) → AreFound f
    → named_at bytes (client_names f.clients) most_clients (behind_word tokens f) ≡ Ok (tt {0}) → clients.section_at bytes f.programs f.sessions tokens f.next ≡ Ok c → IsTrue (is_name c.client.name)
    → IsTrue (client_fits (array_counts f.programs) (length f.sessions) c.client) → AreFound (with_client f c.client c.next)
client_kept bytes tokens f c a new is called fits =
    let name = named_new bytes (client_names f.clients) most_clients (behind_word tokens f) c.client.name new (client_named bytes f.programs f.sessions tokens f.next c is) in
    let before : list_all (client_fits (array_counts f.programs) (length f.sessions)) f.clients ≡ true = a.called in
    let here : client_fits (array_counts f.programs) (length f.sessions) c.client ≡ true = fits in
    record {
      programs = a.programs;
      recipes = a.recipes;
      sessions = a.sessions;
      clients = named_push (λ (q : Script). q.name) most_clients f.clients c.client a.clients name called;
      placed = a.placed;
      read = a.read;
      tuned = a.tuned;
      called = rw (list_all-append, before, here) refl;
    }

-- how many there are

pub few_programs : (f : Found) → AreFound f → length f.programs ≤ 16
few_programs f a = let l = a.programs.few in let e = length-map f.programs (λ (p : ParsedProgram). p.name) in omega (arith, l, e)

pub few_recipes : (f : Found) → AreFound f → length f.recipes ≤ 16
few_recipes f a = let l = a.recipes.few in let e = length-map f.recipes (λ (r : RecipeParts). r.name) in omega (arith, l, e)

pub few_sessions : (f : Found) → AreFound f → length f.sessions ≤ 8
few_sessions f a = let l = a.sessions.few in let e = length-map f.sessions (λ (s : Tuned). s.name) in omega (arith, l, e)

-- The sections of a deck, one after another.
use Rattle.std.specs.Prelude.{ℕ, zero, suc, ◌+◌, pos, Bool, true, false, not, nat_lt, List, [], ◌∷◌, ◌++◌, length, map, drop, Result, Ok, Err}
use Rattle.ch_deck.specs.declared.found.Found.{Found}
use Rattle.ch_deck.specs.declared.sections.Sort.{Sort}
use Rattle.ch_deck.specs.declared.sections.Sort.TheVariants as sorts
use Rattle.ch_deck.specs.Limits.{most_clients, most_programs, most_recipes, most_sessions}
use Rattle.ch_deck.specs.Programs.{has_name}
use Rattle.ch_lex.specs.declared.error.Code2.TheVariants.{D1, D3, D6}
use Rattle.ch_lex.specs.declared.keyword.Keyword.{Keyword}
use Rattle.ch_lex.specs.declared.keyword.Keyword.TheVariants as words
use Rattle.ch_lex.specs.declared.token.Token.{Token}
use Rattle.ch_nestparse.specs.declared.ahead.Look.{Look}
use Rattle.ch_nestparse.specs.declared.ahead.Look.TheVariants as looks
use Rattle.ch_nestparse.specs.declared.program.ParsedProgram.{ParsedProgram}
use Rattle.ch_nestparse.specs.Read.{choose, place, seen, text_at}
use Rattle.ch_nestparse.specs.Sections.{program_at}
use Rattle.ch_script.specs.Recipes.{RecipeParts}
use Rattle.ch_script.specs.Sections.{recipe_at}
use Rattle.ch_workload.specs.Clients as clients
use Rattle.ch_workload.specs.Refusals.{◌>>=◌, admitted, lifted}
use Rattle.ch_workload.specs.Sessions as sessions
use Rattle.ch_workload.specs.Tuned.{Tuned}
use Rattle.ch_workload.specs.declared.client.Script.{Script}
use Rattle.ch_workload.specs.declared.error.DeckCode.TheVariants.{Plain}
use Rattle.ch_workload.specs.declared.error.SectionError.{SectionError}
use Rattle.ch_workload.specs.declared.error.SectionError.TheVariants.{Refused}

abbrev pub word_sort : Keyword → Sort
word_sort words.Program = sorts.Program
word_sort words.Recipe = sorts.Recipe
word_sort words.Session = sorts.Session
word_sort words.Client = sorts.Client
word_sort other = sorts.Other

-- which section begins here, if one does
abbrev pub sort_of : Look → Sort
sort_of (looks.Keyword k) = word_sort k
sort_of other = sorts.Other

abbrev pub looks_named : Look → Bool
looks_named looks.Name = true
looks_named other = false

-- A name that one of its sort before has is refused, and then the name of one more than there may be. What is no name is left to
-- the reader of the section.
unfoldable pub named_at : List ℕ → List (List ℕ) → ℕ → List Token → Result (Unit {0}) SectionError
named_at bytes names most ts = choose (looks_named (seen bytes ts))
    (λ _. admitted (not (has_name (text_at bytes ts) names)) (Plain D3) (place bytes ts) (tt {0})
    >>= λ _. admitted (nat_lt (length names) most) (Plain D6) (place bytes ts) (tt {0}))
    (λ _. Ok (tt {0}))

-- the names of each sort

abbrev pub program_names : List ParsedProgram → List (List ℕ)
program_names programs = map (λ p. p.name) programs

abbrev pub recipe_names : List RecipeParts → List (List ℕ)
recipe_names recipes = map (λ r. r.name) recipes

abbrev pub session_names : List Tuned → List (List ℕ)
session_names sessions = map (λ s. s.name) sessions

abbrev pub client_names : List Script → List (List ℕ)
client_names clients = map (λ c. c.name) clients

-- one section more

abbrev pub with_program : Found → ParsedProgram → ℕ → Found
with_program f p at = record {
  programs = f.programs ++ p ∷ [];
  places = f.places ++ at ∷ [];
  recipes = f.recipes;
  sessions = f.sessions;
  clients = f.clients;
  next = p.next;
}

abbrev pub with_recipe : Found → RecipeParts → ℕ → Found
with_recipe f r next = record {
  programs = f.programs;
  places = f.places;
  recipes = f.recipes ++ r ∷ [];
  sessions = f.sessions;
  clients = f.clients;
  next = next;
}

abbrev pub with_session : Found → Tuned → ℕ → Found
with_session f s next = record {
  programs = f.programs;
  places = f.places;
  recipes = f.recipes;
  sessions = f.sessions ++ s ∷ [];
  clients = f.clients;
  next = next;
}

abbrev pub with_client : Found → Script → ℕ → Found
with_client f c next = record {
  programs = f.programs;
  places = f.places;
  recipes = f.recipes;
  sessions = f.sessions;
  clients = f.clients ++ c ∷ [];
  next = next;
}

-- the tokens from the name of the next section on
abbrev pub behind_word : List Token → Found → List Token
behind_word tokens f = drop (f.next + 1) tokens

unfoldable pub program_from : List ℕ → List Token → Found → Result Found SectionError
program_from bytes tokens f = do
  new ← named_at bytes (program_names f.programs) most_programs (behind_word tokens f)
  p ← lifted (program_at bytes tokens f.next)
  Ok (with_program f p (place bytes (behind_word tokens f)))

unfoldable pub recipe_from : List ℕ → List Token → Found → Result Found SectionError
recipe_from bytes tokens f = do
  new ← named_at bytes (recipe_names f.recipes) most_recipes (behind_word tokens f)
  r ← lifted (recipe_at bytes tokens f.next)
  Ok (with_recipe f r.recipe r.next)

unfoldable pub session_from : List ℕ → List Token → Found → Result Found SectionError
session_from bytes tokens f = do
  new ← named_at bytes (session_names f.sessions) most_sessions (behind_word tokens f)
  s ← sessions.section_at bytes f.programs f.recipes tokens f.next
  Ok (with_session f s.session s.next)

unfoldable pub client_from : List ℕ → List Token → Found → Result Found SectionError
client_from bytes tokens f = do
  new ← named_at bytes (client_names f.clients) most_clients (behind_word tokens f)
  c ← lifted (clients.section_at bytes f.programs f.sessions tokens f.next)
  Ok (with_client f c.client c.next)

abbrev pub sorted_from : Sort → List ℕ → List Token → Found → Result Found SectionError
sorted_from sorts.Program bytes tokens f = program_from bytes tokens f
sorted_from sorts.Recipe bytes tokens f = recipe_from bytes tokens f
sorted_from sorts.Session bytes tokens f = session_from bytes tokens f
sorted_from sorts.Client bytes tokens f = client_from bytes tokens f
sorted_from sorts.Other bytes tokens f = Err (Refused (Plain D1) (place bytes (drop f.next tokens)) (pos 0))

-- one section more, behind those that were found
unfoldable pub section_from : List ℕ → List Token → Found → Result Found SectionError
section_from bytes tokens f = sorted_from (sort_of (seen bytes (drop f.next tokens))) bytes tokens f

-- at most so many sections more
unfoldable pub sections_from : ℕ → List ℕ → List Token → Found → Result Found SectionError
sections_from zero bytes tokens f = Ok f
sections_from (suc left) bytes tokens f = choose (nat_lt f.next (length tokens))
    (λ _. section_from bytes tokens f >>= sections_from left bytes tokens)
    (λ _. Ok f)

abbrev pub nothing_found : Found
nothing_found = record { programs = []; places = []; recipes = []; sessions = []; clients = []; next = 0 }

-- all sections; there are no more of them than tokens
abbrev pub sections_of : List ℕ → List Token → Result Found SectionError
sections_of bytes tokens = sections_from (length tokens) bytes tokens nothing_found

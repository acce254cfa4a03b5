-- What contracts see of a deck, and what its type keeps.
use Rattle.std.specs.Prelude.{ℕ, ◌≤◌, IsTrue, List, length, map}
use Rattle.std.specs.List.{All, list_all}
use Rattle.ch_deck.specs.declared.program.Program.{Program}
use Rattle.ch_deck.specs.Limits.{most_clients, most_programs, most_recipes, most_sessions}
use Rattle.ch_deck.specs.Programs.{IsProgram, names_differ}
use Rattle.ch_nestparse.specs.Spelling.{is_name}
use Rattle.ch_script.specs.Recipes.{RecipeParts}
use Rattle.ch_workload.specs.Clients.{client_fits}
use Rattle.ch_workload.specs.Sessions.{session_fits}
use Rattle.ch_workload.specs.Tuned.{Tuned}
use Rattle.ch_workload.specs.declared.client.Script.{Script}

pub record DeckParts : Type 0 where
  pub programs : List Program
  pub recipes : List RecipeParts
  pub sessions : List Tuned
  pub clients : List Script

abbrev pub deck_parts : List Program → List RecipeParts → List Tuned → List Script → DeckParts
deck_parts programs recipes sessions clients =
    record { programs = programs; recipes = recipes; sessions = sessions; clients = clients }

-- There are at most so many names, each is a name of the language, and no two are one.
pub record AreNames (most : ℕ) (names : List (List ℕ)) : Type 0 where
  pub few : length names ≤ most
  pub called : IsTrue (list_all is_name names)
  pub differ : IsTrue (names_differ names)

-- how many arrays each program has
abbrev pub arrays_in : List Program → List ℕ
arrays_in programs = map (λ p. length p.nest.arrays) programs

-- Each program can be run. What a session and a client name exists: a session's grid has the parameters of its recipe and a point that
-- meets the conditions between them; a client fills no array twice and makes 1 to 10,000 calls.
pub record IsDeck (d : DeckParts) : Type 0 where
  pub programs : AreNames most_programs (map (λ p. p.name) d.programs)
  pub recipes : AreNames most_recipes (map (λ r. r.name) d.recipes)
  pub sessions : AreNames most_sessions (map (λ s. s.name) d.sessions)
  pub clients : AreNames most_clients (map (λ c. c.name) d.clients)
  pub sound : All IsProgram d.programs
  pub tuned : IsTrue (list_all (session_fits (length d.programs) d.recipes) d.sessions)
  pub called : IsTrue (list_all (client_fits (arrays_in d.programs) (length d.sessions)) d.clients)

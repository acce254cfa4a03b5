-- What is known of the sections that were found.
use Rattle.std.specs.Prelude.{◌≡◌, IsTrue, length}
use Rattle.std.specs.List.{All, list_all}
use Rattle.ch_deck.specs.declared.found.Found.{Found}
use Rattle.ch_deck.specs.Limits.{most_clients, most_programs, most_recipes, most_sessions}
use Rattle.ch_deck.specs.Parts.{AreNames}
use Rattle.ch_deck.specs.Sections.{client_names, program_names, recipe_names, session_names}
use Rattle.ch_nestparse.specs.Distinct.{are_distinct}
use Rattle.ch_nestparse.specs.Spelling.{is_fill, is_named}
use Rattle.ch_nestparse.specs.TextOrder.{text_accesses}
use Rattle.ch_nestparse.specs.declared.program.ParsedProgram.{ParsedProgram}
use Rattle.ch_workload.specs.Clients.{array_counts, client_fits}
use Rattle.ch_workload.specs.Sessions.{session_fits}

-- what the reader of a program section keeps
pub record IsRead (p : ParsedProgram) : Type 0 where
  pub named : IsTrue (list_all is_named p.nest.arrays)
  pub apart : IsTrue (are_distinct p.nest.arrays)
  pub filled : length p.fills ≡ length p.nest.arrays
  pub numbers : IsTrue (list_all is_fill p.fills)
  pub accesses : length p.accesses ≡ length (text_accesses p.nest.items)

pub record AreFound (f : Found) : Type 0 where
  pub programs : AreNames most_programs (program_names f.programs)
  pub recipes : AreNames most_recipes (recipe_names f.recipes)
  pub sessions : AreNames most_sessions (session_names f.sessions)
  pub clients : AreNames most_clients (client_names f.clients)
  pub placed : length f.places ≡ length f.programs
  pub read : All IsRead f.programs
  pub tuned : IsTrue (list_all (session_fits (length f.programs) f.recipes) f.sessions)
  pub called : IsTrue (list_all (client_fits (array_counts f.programs) (length f.sessions)) f.clients)

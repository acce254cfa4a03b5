-- What a session of a deck names: a program, a recipe, and the machine on which its costs are counted.
use Rattle.std.specs.Prelude.{ℕ, Bool, nat_eq, if◌then◌else◌, List, [], ◌∷◌, slice_get}
use Rattle.std.specs.List.{list_any}
use Rattle.std.specs.Option.{option_map_or}
use Rattle.ch_deck.specs.Parts.{DeckParts}
use Rattle.ch_deck.specs.declared.program.Program.{Program}
use Rattle.ch_nest.specs.CostModel.{CostModel}
use Rattle.ch_nest.specs.LoopNest.{LoopNest}
use Rattle.ch_script.specs.Recipes.{RecipeParts}
use Rattle.ch_workload.specs.Machines.{usual_machine}
use Rattle.ch_workload.specs.Sessions.{numbered}
use Rattle.ch_workload.specs.Tuned.{Tuned}
use Rattle.ch_workload.specs.declared.client.Script.{Script}

abbrev pub calls : ℕ → Script → Bool
calls session client = list_any (λ c. nat_eq c.session session) client.calls

-- the machine of the first client that calls the session of this number, else the usual one
abbrev pub machine_of : List Script → ℕ → CostModel
machine_of [] session = usual_machine
machine_of (client ∷ others) session = if calls session client then client.machine else machine_of others session

-- the program of a number; a number past the list, which no session of a deck has, has none of its parts
abbrev pub no_program : Program
no_program = record { name = []; nest = record { arrays = []; items = [] }; fills = [] }

abbrev pub numbered_program : List Program → ℕ → Program
numbered_program programs k = option_map_or (λ (p : Program). p) (slice_get programs k) no_program

-- what a session names
abbrev pub program_in : DeckParts → Tuned → Program
program_in deck s = numbered_program deck.programs s.program

abbrev pub nest_of : DeckParts → Tuned → LoopNest
nest_of deck s = (program_in deck s).nest

abbrev pub recipe_in : DeckParts → Tuned → RecipeParts
recipe_in deck s = numbered deck.recipes s.recipe

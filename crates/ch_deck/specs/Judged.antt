-- Programs that can't be run.
use Rattle.std.specs.Bool.{IsTrue}
use Rattle.std.specs.Prelude.{ℕ, List, [], ◌∷◌, ◌++◌, codes, map, Option, Some, None, slice_index, slice_get}
use Rattle.std.specs.Option.{option_map_or}
use Rattle.ch_deck.specs.declared.found.Found.{Found}
use Rattle.ch_deck.specs.declared.program.Program.{Program}
use Rattle.ch_deck.specs.declared.refusal.Refused.{Refused}
use Rattle.ch_deck.specs.Parts.{DeckParts, deck_parts}
use Rattle.ch_deck.specs.Refusals.{refused_at}
use Rattle.ch_lex.specs.declared.error.Code2.TheVariants.{S1, S2}
use Rattle.ch_nest.specs.declared.nest.ArrayDecl.{ArrayDecl}
use Rattle.ch_nest.specs.Sound.{is_sound}
use Rattle.ch_nestparse.specs.declared.program.ParsedProgram.{ParsedProgram}
use Rattle.ch_print.specs.Instances.{cell_text, identity_text}
use Rattle.ch_space.specs.declared.error.SpaceError.{SpaceError}
use Rattle.ch_space.specs.declared.error.SpaceError.TheVariants.{TooMany, OutOfRange, Memory}
use Rattle.ch_space.specs.Judged.{judgement}
use Rattle.ch_timed.specs.declared.element.Cell.{Cell}
use Rattle.ch_timed.specs.declared.element.Identity.{Identity}
use Rattle.ch_workload.specs.declared.error.DeckCode.TheVariants.{Plain}

abbrev pub name_of : List ArrayDecl → ℕ → List ℕ
name_of arrays k = option_map_or (λ d. d.name) (slice_get arrays k) []

-- the instance and the cell that it names
abbrev pub instance_text : List ArrayDecl → Identity → Cell → List ℕ
instance_text arrays first cell = identity_text first ++ codes " " ++ cell_text (name_of arrays cell.array) cell.subs

-- How a nest's judgement is told: too many turns at the byte of the program's name, a subscript that leaves its array at the access,
-- by its number among those of the text.
abbrev pub told : List ℕ → ParsedProgram → ℕ → SpaceError → Option Refused
told bytes p name_at TooMany = Some (refused_at bytes (Plain S1) name_at [])
told bytes p name_at (OutOfRange first access cell) =
    Some (refused_at bytes (Plain S2) (slice_index p.accesses access) (instance_text p.nest.arrays first cell))
told bytes p name_at Memory = None

abbrev pub and_then : {A B : Type 0} → Option A → (A → Option B) → Option B
and_then None f = None
and_then (Some x) f = f x

-- why a program can't be run
unfoldable pub unfit : List ℕ → ParsedProgram → ℕ → Option Refused
unfit bytes p name_at = and_then (judgement p.nest) (told bytes p name_at)

abbrev pub or_else : Option Refused → Option Refused → Option Refused
or_else (Some r) more = Some r
or_else None more = more

-- the refusal of the first program that can't be run, where the programs' names stand at these bytes
abbrev pub first_unfit : List ℕ → List ParsedProgram → List ℕ → Option Refused
first_unfit bytes (p ∷ ps) (at ∷ ats) = or_else (unfit bytes p at) (first_unfit bytes ps ats)
first_unfit bytes ps ats = None

abbrev pub program_of : ParsedProgram → Program
program_of p = record { name = p.name; nest = p.nest; fills = p.fills }

-- the deck of the sections that were found
abbrev pub deck_found : Found → DeckParts
deck_found f = deck_parts (map program_of f.programs) f.recipes f.sessions f.clients

abbrev pub IsSound : ParsedProgram → Type 0
IsSound p = IsTrue (is_sound p.nest)

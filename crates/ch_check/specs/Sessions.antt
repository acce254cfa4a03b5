-- At which values the recipe of a session is checked, and what comes of it there.
use Rattle.std.specs.Prelude.{◌≡◌, ℕ, ℤ, Bool, true, nat_eq, IsTrue, Option, Some, None, Result, List, length}
use Rattle.std.specs.List.{list_all}
use Rattle.ch_constrain.specs.Nearest.{values}
use Rattle.ch_deck.specs.Parts.{DeckParts}
use Rattle.ch_grid.specs.Grid.{sizes}
use Rattle.ch_grid.specs.declared.param.Param.{Param}
use Rattle.ch_judge.specs.Judged.{told_of}
use Rattle.ch_judge.specs.declared.judging.Told.{Told}
use Rattle.ch_nest.specs.CostModel.{CostModel}
use Rattle.ch_rank.specs.Moves.{centre}
use Rattle.ch_script.specs.declared.refusal.Refusal.{Refusal}
use Rattle.ch_space.specs.Listed.{Listed}
use Rattle.ch_subject.specs.Subjects.{nest_of, recipe_in}
use Rattle.ch_variant.specs.Applied.{applied}
use Rattle.ch_variant.specs.Judgements.{measured}
use Rattle.ch_workload.specs.Sessions.{session_fits}
use Rattle.ch_workload.specs.Tuned.{Tuned}

-- the values of the parameters: the given ones, else those at the centre of the grid
abbrev pub values_of : Option (List ℤ) → List Param → List ℤ
values_of None params = values params (centre (sizes params))
values_of (Some given) params = given

-- there are as many given values as the session has parameters
abbrev pub fits : Option (List ℤ) → Tuned → Bool
fits None s = true
fits (Some given) s = nat_eq (length given) (length s.params)

-- and so for each session
abbrev pub fits_all : Option (List ℤ) → DeckParts → Bool
fits_all at deck = list_all (fits at) deck.sessions

-- what the recipe of a session makes of its program, or the recipe's refusal
abbrev pub made : DeckParts → Option (List ℤ) → Tuned → Result Listed Refusal
made deck at s = applied (nest_of deck s) (recipe_in deck s).commands (values_of at s.params)

-- what a machine tells of it
abbrev pub told : CostModel → DeckParts → Option (List ℤ) → Tuned → Result Told Refusal
told m deck at s = measured (told_of m (nest_of deck s)) (made deck at s)

-- A session can be checked: what it names is there, and there are as many given values as parameters.
pub record CanCheck (deck : DeckParts) (at : Option (List ℤ)) (s : Tuned) : Type 0 where
  pub there : IsTrue (session_fits (length deck.programs) deck.recipes s)
  pub fits : IsTrue (fits at s)

-- What a deck means: how each client's cells begin, what a run of a program makes of them, and what is judged of the points of each session.
use Rattle.std.specs.Prelude.{ℕ, suc, ℤ, List, [], ◌∷◌, ◌++◌, length, map, slice_get, Option, Some, None, Result, Ok, Err, if◌then◌else◌}
use Rattle.std.specs.Option.{option_map_or}
use Rattle.ch_conduct.specs.Meaning.{Judge, Task, Meaning}
use Rattle.ch_cost.specs.Cost.{cost}
use Rattle.ch_deck.specs.Parts.{DeckParts}
use Rattle.ch_nest.specs.Arrays.{extents_of}
use Rattle.ch_nest.specs.CostModel.{CostModel}
use Rattle.ch_nest.specs.Fills.{filled_cells}
use Rattle.ch_nest.specs.LoopNest.{LoopNest}
use Rattle.ch_nest.specs.Run.{run}
use Rattle.ch_nest.specs.declared.nest.Fill.{Fill}
use Rattle.ch_script.specs.declared.refusal.Refusal.{Refusal}
use Rattle.ch_session.specs.History.{Theme}
use Rattle.ch_space.specs.Listed.{Listed}
use Rattle.ch_variant.specs.Variants.{applied_at, origin_at}
use Rattle.ch_workload.specs.Fills.{is_for}
use Rattle.ch_workload.specs.Sessions.{numbered}
use Rattle.ch_workload.specs.Tuned.{Tuned}
use Rattle.ch_workload.specs.declared.fills.ClientFill.{ClientFill}

-- ---- programs; a number that no program has counts as one without arrays

abbrev pub no_nest : LoopNest
no_nest = record { arrays = []; items = [] }

abbrev pub nest_of : DeckParts → ℕ → LoopNest
nest_of d p = option_map_or (λ q. q.nest) (slice_get d.programs p) no_nest

abbrev pub fills_of : DeckParts → ℕ → List Fill
fills_of d p = option_map_or (λ q. q.fills) (slice_get d.programs p) []

-- ---- how a client's cells begin: an array that the client fills begins so, and the others as the program fills them

abbrev pub own_fills : DeckParts → ℕ → List ClientFill
own_fills d c = option_map_or (λ s. s.fills) (slice_get d.clients c) []

abbrev pub fill_for : List ClientFill → ℕ → ℕ → Fill → Fill
fill_for [] p a f = f
fill_for (x ∷ xs) p a f = if is_for p a x then x.fill else fill_for xs p a f

-- those of the arrays a, a + 1 and so on
abbrev pub fills_for : List ClientFill → ℕ → ℕ → List Fill → List Fill
fills_for own p a [] = []
fills_for own p a (f ∷ fs) = fill_for own p a f ∷ fills_for own p (suc a) fs

abbrev pub cells_of : DeckParts → ℕ → ℕ → List ℤ
cells_of d c p = filled_cells (nest_of d p).arrays (fills_for (own_fills d c) p 0 (fills_of d p))

-- ---- what is judged of a point: the recipe is applied at the nearest point that meets its conditions

abbrev pub refusal_of : Result Listed Refusal → Option Refusal
refusal_of (Ok program) = None
refusal_of (Err refused) = Some refused

-- what the program that was made costs; a refused one has no cost, and counts as 0
abbrev pub cost_of : LoopNest → CostModel → Result Listed Refusal → ℕ
cost_of nest machine (Ok program) = cost machine (extents_of nest.arrays ++ program.temps) program.list
cost_of nest machine (Err refused) = 0

abbrev pub made_at : Theme → List ℕ → Result Listed Refusal
made_at th point = applied_at th.nest (origin_at th.recipe th.grid point)

abbrev pub judge_of : Theme → Judge
judge_of th = record {
  refusal = λ point. refusal_of (made_at th point);
  cost = λ machine point. cost_of th.nest machine (made_at th point);
}

-- ---- the deck

abbrev pub theme_of : DeckParts → Tuned → Theme
theme_of d s = record { nest = nest_of d s.program; recipe = numbered d.recipes s.recipe; grid = s.params; repeat = s.repeat }

abbrev pub task_of : DeckParts → Tuned → Task
task_of d s = record { program = s.program; theme = theme_of d s; judge = judge_of (theme_of d s) }

abbrev pub meaning_of : DeckParts → Meaning
meaning_of d = record {
  programs = length d.programs;
  tasks = map (task_of d) d.sessions;
  clients = d.clients;
  filled = cells_of d;
  run = λ p. run (nest_of d p);
}

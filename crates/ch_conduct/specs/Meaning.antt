-- What a deck means to those who run it: all that the conduct of clients and builders, and what a report shows, depend on.
use Rattle.std.specs.Prelude.{ℕ, ℤ, List, [], Option, None, map, slice_index_or}
use Rattle.ch_nest.specs.CostModel.{CostModel}
use Rattle.ch_rank.specs.Moves.{Point}
use Rattle.ch_script.specs.Recipes.{recipe_of}
use Rattle.ch_script.specs.declared.refusal.Refusal.{Refusal}
use Rattle.ch_session.specs.History.{Theme}
use Rattle.ch_workload.specs.Machines.{usual_machine}
use Rattle.ch_workload.specs.declared.client.Script.{Script}

-- what is judged of the points of a session: why the recipe is refused at a point, and if it isn't, what the program made there costs on a machine
pub record Judge : Type 0 where
  pub refusal : Point → Option Refusal
  pub cost : CostModel → Point → ℕ

-- a session: the number of the program that it tunes, what it tunes, and what is judged of it
pub record Task : Type 0 where
  pub program : ℕ
  pub theme : Theme
  pub judge : Judge

-- programs: how many there are. filled c p: the cells that client c's arrays of program p begin with. run p: what one run of p makes of cells
pub record Meaning : Type 0 where
  pub programs : ℕ
  pub tasks : List Task
  pub clients : List Script
  pub filled : ℕ → ℕ → List ℤ
  pub run : ℕ → List ℤ → List ℤ

-- ---- by number; a number that no client or session has counts as one of these

-- the machine of a client
abbrev pub machine_of : Meaning → ℕ → CostModel
machine_of m c = slice_index_or (map (λ s. s.machine) m.clients) c usual_machine

abbrev pub program_of : Meaning → ℕ → ℕ
program_of m n = slice_index_or (map (λ t. t.program) m.tasks) n 0

abbrev pub no_theme : Theme
no_theme = record { nest = record { arrays = []; items = [] }; recipe = recipe_of [] [] [] []; grid = []; repeat = 1 }

abbrev pub theme_of : Meaning → ℕ → Theme
theme_of m n = slice_index_or (map (λ t. t.theme) m.tasks) n no_theme

abbrev pub judge_of : Meaning → ℕ → Judge
judge_of m n = slice_index_or (map (λ t. t.judge) m.tasks) n (record { refusal = λ p. None; cost = λ machine p. 0 })

-- What is said of a recipe: its refusal, or what a machine tells of the program that it makes, and code for that program.
use Rattle.std.specs.Prelude.{◌≡◌, ℕ, IsTrue, Result, List, ◌++◌, length}
use Rattle.ch_code.specs.Trace.{unit_trace}
use Rattle.ch_code.specs.UnitParts.{UnitParts}
use Rattle.ch_code.specs.WellFormed.{IsUnit}
use Rattle.ch_cost.specs.Cost.{cost}
use Rattle.ch_judge.specs.declared.judging.Told.{Told}
use Rattle.ch_judge.specs.declared.subject.Subject.{Subject}
use Rattle.ch_nest.specs.Arrays.{extents_of}
use Rattle.ch_nest.specs.CostModel.{CostModel}
use Rattle.ch_nest.specs.LoopNest.{LoopNest}
use Rattle.ch_nest.specs.Sound.{is_sound}
use Rattle.ch_script.specs.declared.refusal.Refusal.{Refusal}
use Rattle.ch_session.specs.Making.{Origin}
use Rattle.ch_space.specs.Listed.{Listed}
use Rattle.ch_timed.specs.Timed.{pieces}
use Rattle.ch_variant.specs.Judgements.{measured}
use Rattle.ch_variant.specs.Variants.{applied_at}

-- what a program costs, over the arrays of its nest and its buffers behind them
abbrev pub program_cost : CostModel → LoopNest → Listed → ℕ
program_cost m nest p = cost m (extents_of nest.arrays ++ p.temps) p.list

-- its pieces, its statement instances and its cost
abbrev pub told_of : CostModel → LoopNest → Listed → Told
told_of m nest p = record { pieces = length (pieces p.list); instances = length p.list; cost = program_cost m nest p }

-- the refusal of a recipe at a point of a grid, or the cost of the program that is built there
abbrev pub judged_at : CostModel → LoopNest → Origin → Result ℕ Refusal
judged_at m nest o = measured (program_cost m nest) (applied_at nest o)

-- Code for a program of a nest: it is well formed, works on the nest's arrays and the program's buffers, and executes the program's
-- list.
pub record IsCodeFor (nest : LoopNest) (p : Listed) (u : UnitParts) : Type 0 where
  pub formed : IsUnit u
  pub trace : unit_trace u ≡ p.list
  pub arrays : u.arrays ≡ nest.arrays
  pub temps : u.temps ≡ p.temps

-- The nest can be run, and each array has its fill.
pub record IsSubject (s : Subject) : Type 0 where
  pub sound : IsTrue (is_sound s.nest.now)
  pub filled : length s.fills.now ≡ length s.nest.now.arrays

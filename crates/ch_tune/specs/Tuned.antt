-- A search that one thread leads to its end: the least pending trial is measured, again and again, until no trial is pending.
use Rattle.std.specs.Prelude.{◌≡◌, ℕ, Some, Result, Ok, Err, List, [], ◌∷◌, ◌++◌, slice_get}
use Rattle.ch_grid.specs.declared.param.Param.{Param}
use Rattle.ch_rank.specs.Entries.{at_entries, pending, played}
use Rattle.ch_rank.specs.Search.{point_at}
use Rattle.ch_rank.specs.declared.outcome.Costed.{Costed}
use Rattle.ch_rank.specs.declared.outcome.Outcome.{Outcome}
use Rattle.ch_rank.specs.declared.outcome.Outcome.TheVariants as outcome
use Rattle.ch_rank.specs.declared.phase.Phase.TheVariants.{Converged}
use Rattle.ch_report.specs.Summary.{summary}
use Rattle.ch_report.specs.declared.part.EntryLine.{EntryLine}
use Rattle.ch_report.specs.declared.part.Found.{Found}
use Rattle.ch_report.specs.declared.part.Found.TheVariants as found
use Rattle.ch_report.specs.declared.part.SessionPart.{SessionPart}
use Rattle.ch_script.specs.declared.refusal.Refusal.{Refusal}

-- what is said of a point: the cost there, or why the recipe is refused
abbrev pub Judged : Type 0
Judged = List ℕ → Result ℕ Refusal

abbrev pub outcome_of : Result ℕ Refusal → Outcome
outcome_of (Ok cost) = outcome.Cost cost
outcome_of (Err refused) = outcome.Refused

-- no client and no call stand behind a cost that one thread found
abbrev pub found_of : Result ℕ Refusal → Found
found_of (Ok cost) = found.Cost 0 0 cost
found_of (Err refused) = found.Refused refused

-- the point of a trial, in the search on these entries
abbrev pub point_in : List Param → ℕ → List Costed → ℕ → List ℕ
point_in grid repeat entries trial = point_at (played (at_entries grid repeat entries)) trial

-- behind these entries comes the least trial that is pending, with what is said of its point
pub record IsNext (grid : List Param) (repeat : ℕ) (judged : Judged) (before : List Costed) (e : Costed) : Type 0 where
  pub least : slice_get (pending (at_entries grid repeat before)) 0 ≡ Some e.trial
  pub outcome : e.outcome ≡ outcome_of (judged (point_in grid repeat before e.trial))

-- each entry is the next one behind those before it
abbrev pub Follow : List Param → ℕ → Judged → List Costed → List Costed → Type 0
Follow grid repeat judged before [] = Unit {0}
Follow grid repeat judged before (e ∷ es) = IsNext grid repeat judged before e × Follow grid repeat judged (before ++ e ∷ []) es

-- the line of each entry: its trial, the trial's point and what is said of that
abbrev pub line_of : List ℕ → Judged → ℕ → EntryLine
line_of point judged trial = record { trial = trial; point = point; found = found_of (judged point) }

abbrev pub lines_of : List Param → ℕ → Judged → List Costed → List Costed → List EntryLine
lines_of grid repeat judged before [] = []
lines_of grid repeat judged before (e ∷ es) =
    line_of (point_in grid repeat before e.trial) judged e.trial ∷ lines_of grid repeat judged (before ++ e ∷ []) es

-- The entries are each the next one, no trial is pending behind the last, and the lines are theirs.
pub record IsTuned (grid : List Param) (repeat : ℕ) (judged : Judged) (part : SessionPart) : Type 0 where
  pub entries : List Costed
  pub follows : Follow grid repeat judged [] entries
  pub ended : (played (at_entries grid repeat entries)).phase ≡ Converged
  pub told : part ≡ summary (at_entries grid repeat entries) (lines_of grid repeat judged [] entries)

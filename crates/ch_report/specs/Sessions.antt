-- The lines of a session: what its search was given and what it came to.
use Rattle.std.specs.Prelude.{ℕ, Bool, true, ◌&&◌, if◌then◌else◌, Option, Some, None, List, [], ◌++◌, codes, length}
use Rattle.std.specs.List.{list_all}
use Rattle.ch_affine.specs.Form.{Form}
use Rattle.ch_constrain.specs.Nearest.{is_admissible, nearest}
use Rattle.ch_grid.specs.declared.param.Param.{Param}
use Rattle.ch_grid.specs.Grid.{sizes}
use Rattle.ch_grid.specs.Points.{is_point}
use Rattle.ch_nest.specs.declared.nest.ArrayDecl.{ArrayDecl}
use Rattle.ch_print.specs.Numbers.{number_text}
use Rattle.ch_rank.specs.declared.phase.Phase.{Phase}
use Rattle.ch_rank.specs.declared.phase.Phase.TheVariants as phases
use Rattle.ch_report.specs.Numbered.{numbered}
use Rattle.ch_report.specs.Points.{point_text}
use Rattle.ch_report.specs.Refusals.{refusal_text}
use Rattle.ch_report.specs.declared.part.BestLine.{BestLine}
use Rattle.ch_report.specs.declared.part.EntryLine.{EntryLine}
use Rattle.ch_report.specs.declared.part.Found.{Found}
use Rattle.ch_report.specs.declared.part.Found.TheVariants.{Cost, Refused}
use Rattle.ch_report.specs.declared.part.RankLine.{RankLine}
use Rattle.ch_report.specs.declared.part.SessionPart.{SessionPart}
use Rattle.ch_report.specs.declared.session.Tuning.{Tuning}

abbrev pub phase_text : Phase → List ℕ
phase_text phases.Start = codes "Start"
phase_text phases.Reflect = codes "Reflect"
phase_text phases.Try = codes "Try"
phase_text phases.Expand = codes "Expand"
phase_text phases.Shrink = codes "Shrink"
phase_text phases.Probe = codes "Probe"
phase_text phases.Converged = codes "Converged"

-- a cost, or the refusal of the trial's recipe
abbrev pub found_text : List ArrayDecl → Found → List ℕ
found_text arrays (Cost client call cost) = codes "cost " ++ number_text cost
found_text arrays (Refused refusal) = refusal_text arrays refusal

-- as `entry 1 trial 0 at (3,4) cost 42`
unfoldable pub entry_line : List Param → List ArrayDecl → ℕ → EntryLine → List ℕ
entry_line params arrays k e =
    codes "entry " ++ number_text k ++ codes " trial " ++ number_text e.trial ++ codes " at " ++ point_text params e.point
    ++ codes " " ++ found_text arrays e.found ++ codes "\n"

abbrev pub cost_text : Option ℕ → List ℕ
cost_text None = codes "top"
cost_text (Some cost) = number_text cost

-- as `rank 1 place 0 at (3,4) cost 42`, and `cost top` where the recipe is refused
unfoldable pub rank_line : List Param → ℕ → RankLine → List ℕ
rank_line params k r =
    codes "rank " ++ number_text k ++ codes " place " ++ number_text r.place ++ codes " at " ++ point_text params r.point
    ++ codes " cost " ++ cost_text r.cost ++ codes "\n"

-- what is built at a point that isn't admissible: the nearest admissible one
abbrev pub nearest_text : List Param → Option (List ℕ) → List ℕ
nearest_text params None = []
nearest_text params (Some point) = codes " used " ++ point_text params point

abbrev pub used_text : List Param → List Form → List ℕ → List ℕ
used_text params conditions point =
    if is_admissible params conditions point then [] else nearest_text params (nearest params conditions point)

-- as `best at (3,4) cost 42`, and `best at (1) used (2) cost 13` where the point isn't admissible
abbrev pub point_line : List Param → List Form → BestLine → List ℕ
point_line params conditions b =
    codes "best at " ++ point_text params b.point ++ used_text params conditions b.point ++ codes " cost " ++ number_text b.cost ++ codes "\n"

abbrev pub best_line : List Param → List Form → Option BestLine → List ℕ
best_line params conditions None = codes "best none\n"
best_line params conditions (Some b) = point_line params conditions b

-- as `session s entries 3 steps 2 phase Converged`
unfoldable pub head_line : List ℕ → ℕ → ℕ → Phase → List ℕ
head_line name entries steps phase =
    codes "session " ++ name ++ codes " entries " ++ number_text entries ++ codes " steps " ++ number_text steps
    ++ codes " phase " ++ phase_text phase ++ codes "\n"

-- a session's head, its entries and its ranks counted from 1, and its best point
unfoldable pub part_lines : List ℕ → List Param → List Form → List ArrayDecl → SessionPart → List ℕ
part_lines name params conditions arrays part =
    head_line name (length part.entries) part.steps part.phase ++ numbered (entry_line params arrays) 1 part.entries
    ++ numbered (rank_line params) 1 part.ranks ++ best_line params conditions part.best

abbrev pub session_lines : Tuning → SessionPart → List ℕ
session_lines t part = part_lines t.name.now t.grid.now.params t.conditions.now t.arrays.now part

-- each point of the part is one of the grid
abbrev pub best_inside : List Param → Option BestLine → Bool
best_inside params None = true
best_inside params (Some b) = is_point (sizes params) b.point

abbrev pub is_inside : List Param → SessionPart → Bool
is_inside params part =
    list_all (λ e. is_point (sizes params) e.point) part.entries && list_all (λ r. is_point (sizes params) r.point) part.ranks
    && best_inside params part.best

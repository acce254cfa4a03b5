-- The text and the status of `check`: a line for each session of a deck, in their order.
use Rattle.std.specs.Prelude.{ℕ, ℤ, Bool, is_err, if◌then◌else◌, Option, Result, Ok, Err, List, ◌++◌, codes}
use Rattle.std.specs.List.{list_any}
use Rattle.ch_check.specs.Sessions.{made, told, values_of}
use Rattle.ch_deck.specs.Parts.{DeckParts}
use Rattle.ch_judge.specs.declared.judging.Told.{Told}
use Rattle.ch_nest.specs.CostModel.{CostModel}
use Rattle.ch_nest.specs.declared.nest.ArrayDecl.{ArrayDecl}
use Rattle.ch_print.specs.Numbers.{number_text}
use Rattle.ch_report.specs.Numbered.{numbered}
use Rattle.ch_report.specs.Points.{values_text}
use Rattle.ch_report.specs.Refusals.{refusal_text}
use Rattle.ch_script.specs.declared.refusal.Refusal.{Refusal}
use Rattle.ch_subject.specs.Subjects.{machine_of, nest_of}
use Rattle.ch_workload.specs.Tuned.{Tuned}

-- as `legal pieces 2 instances 8 cost 42`
unfoldable pub legal_text : Told → List ℕ
legal_text t =
    codes "legal pieces " ++ number_text t.pieces ++ codes " instances " ++ number_text t.instances ++ codes " cost " ++ number_text t.cost

-- what is told of a recipe, or its refusal at a program with these arrays
abbrev pub told_text : List ArrayDecl → Result Told Refusal → List ℕ
told_text arrays (Ok told) = legal_text told
told_text arrays (Err refused) = refusal_text arrays refused

-- the session's name and the values, as `session s at (3,4) `
unfoldable pub front_text : List ℕ → List ℤ → List ℕ
front_text name numbers = codes "session " ++ name ++ codes " at " ++ values_text numbers ++ codes " "

-- the arrays are those of the program; where the recipe is legal, none of them is named
abbrev pub line_text : List ℕ → List ℤ → List ArrayDecl → Result Told Refusal → List ℕ
line_text name numbers arrays told = front_text name numbers ++ told_text arrays told ++ codes "\n"

-- the line of a session, whose costs are counted on this machine
abbrev pub line_on : CostModel → DeckParts → Option (List ℤ) → Tuned → List ℕ
line_on m deck at s = line_text s.name (values_of at s.params) (nest_of deck s).arrays (told m deck at s)

-- the line of session k
abbrev pub check_line : DeckParts → Option (List ℤ) → ℕ → Tuned → List ℕ
check_line deck at k s = line_on (machine_of deck.clients k) deck at s

-- the lines of the sessions, which count from 0, and `end`
abbrev pub check_text : DeckParts → Option (List ℤ) → List ℕ
check_text deck at = numbered (check_line deck at) 0 deck.sessions ++ codes "end\n"

-- whether a session's recipe is refused
abbrev pub is_refused : DeckParts → Option (List ℤ) → Tuned → Bool
is_refused deck at s = is_err (made deck at s)

-- 6 where a recipe is refused, else 0
abbrev pub check_status : DeckParts → Option (List ℤ) → ℕ
check_status deck at = if list_any (is_refused deck at) deck.sessions then 6 else 0

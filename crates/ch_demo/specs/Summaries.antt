-- What is told of the deck that is made from a number: a line for each session with its best point, and how many sessions there are.
use Rattle.std.specs.Prelude.{◌≡◌, ℕ, List, [], ◌++◌, codes, length}
use Rattle.ch_demo.specs.Generated.{count_of, generated}
use Rattle.ch_print.specs.Numbers.{number_text}
use Rattle.ch_report.specs.Sessions.{best_line}
use Rattle.ch_report.specs.declared.part.SessionPart.{SessionPart}
use Rattle.ch_search.specs.Parts.{ArePartsOf}
use Rattle.ch_search.specs.Searched.{lines_of}
use Rattle.ch_workload.specs.Tuned.{Tuned}

-- as `session s0 entries 14 steps 5 best at (6,5) cost 2246`
abbrev pub summary_line : Tuned → SessionPart → List ℕ
summary_line s part =
    codes "session " ++ s.name ++ codes " entries " ++ number_text (length part.entries) ++ codes " steps " ++ number_text part.steps
    ++ codes " " ++ best_line s.params [] part.best

-- as `demo 2 sessions 3`
abbrev pub last_line : ℕ → List ℕ
last_line number = codes "demo " ++ number_text number ++ codes " sessions " ++ number_text (count_of number) ++ codes "\n"

pub record IsDemoText (number : ℕ) (text : List ℕ) : Type 0 where
  pub parts : List SessionPart
  pub searched : ArePartsOf (generated number) parts
  pub told : text ≡ lines_of summary_line (generated number).sessions parts ++ last_line number

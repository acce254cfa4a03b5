-- The text of `search`: for each session of a deck the lines of what its search came to, and `end`.
use Rattle.std.specs.Prelude.{◌≡◌, ℕ, List, [], ◌∷◌, ◌++◌, codes}
use Rattle.ch_deck.specs.Parts.{DeckParts}
use Rattle.ch_report.specs.Sessions.{part_lines}
use Rattle.ch_report.specs.declared.part.SessionPart.{SessionPart}
use Rattle.ch_search.specs.Parts.{ArePartsOf}
use Rattle.ch_subject.specs.Subjects.{nest_of, recipe_in}
use Rattle.ch_script.specs.Requirements.{requirements}
use Rattle.ch_workload.specs.Tuned.{Tuned}

-- the lines of a session: points as values of its parameters, cells by the names of its program's arrays
abbrev pub session_part : DeckParts → Tuned → SessionPart → List ℕ
session_part deck s part = part_lines s.name s.params (requirements (recipe_in deck s)) (nest_of deck s).arrays part

-- what is told of each session with its part
abbrev pub lines_of : (Tuned → SessionPart → List ℕ) → List Tuned → List SessionPart → List ℕ
lines_of line (s ∷ ss) (part ∷ parts) = line s part ++ lines_of line ss parts
lines_of line ss parts = []

pub record IsSearchText (deck : DeckParts) (text : List ℕ) : Type 0 where
  pub parts : List SessionPart
  pub searched : ArePartsOf deck parts
  pub told : text ≡ lines_of (session_part deck) deck.sessions parts ++ codes "end\n"

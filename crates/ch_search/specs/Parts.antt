-- What the searches of a deck's sessions come to, each led by one thread to its end.
use Rattle.std.specs.Prelude.{ℕ, suc, IsTrue, List, [], ◌∷◌}
use Rattle.ch_deck.specs.Parts.{DeckParts}
use Rattle.ch_judge.specs.Judged.{judged_at}
use Rattle.ch_report.specs.Sessions.{is_inside}
use Rattle.ch_report.specs.declared.part.SessionPart.{SessionPart}
use Rattle.ch_subject.specs.Subjects.{machine_of, nest_of, recipe_in}
use Rattle.ch_tune.specs.Tuned.{IsTuned, Judged}
use Rattle.ch_variant.specs.Variants.{origin_at}
use Rattle.ch_workload.specs.Tuned.{Tuned}

-- What is said of the points of the session of number k: the cost of the program that its recipe makes at the nearest point that meets the
-- recipe's conditions, on the machine of the first client that calls the session, or the refusal of the recipe there.
abbrev pub judged_in : DeckParts → ℕ → Tuned → Judged
judged_in deck k s point = judged_at (machine_of deck.clients k) (nest_of deck s) (origin_at (recipe_in deck s) s.params point)

-- a search by one thread over the session's grid comes to this
abbrev pub IsPart : DeckParts → ℕ → Tuned → SessionPart → Type 0
IsPart deck k s part = IsTuned s.params s.repeat (judged_in deck k s) part

-- each session, the first of which has number k, with its part
abbrev pub Each : (ℕ → Tuned → SessionPart → Type 0) → ℕ → List Tuned → List SessionPart → Type 0
Each P k [] [] = Unit {0}
Each P k (s ∷ ss) (part ∷ parts) = P k s part × Each P (suc k) ss parts
Each P k ss parts = ⊥

abbrev pub ArePartsOf : DeckParts → List SessionPart → Type 0
ArePartsOf deck parts = Each (IsPart deck) 0 deck.sessions parts

-- the points that each part tells of are points of the session's grid
abbrev pub AreInside : DeckParts → List SessionPart → Type 0
AreInside deck parts = Each (λ k s part. IsTrue (is_inside s.params part)) 0 deck.sessions parts

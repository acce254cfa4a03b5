-- The texts of `show`: the lines of `check`, and behind that of a legal recipe the pieces of the program that it makes and code for it.
use Rattle.std.specs.Prelude.{◌≡◌, ℕ, suc, ℤ, Option, Result, Ok, Err, List, [], ◌∷◌, ◌++◌, codes}
use Rattle.ch_check.specs.Sessions.{made}
use Rattle.ch_check.specs.Checked.{line_on}
use Rattle.ch_check.specs.PieceText.{piece_lines}
use Rattle.ch_code.specs.CodeText.{unit_text}
use Rattle.ch_code.specs.UnitParts.{UnitParts}
use Rattle.ch_deck.specs.Parts.{DeckParts}
use Rattle.ch_judge.specs.Judged.{IsCodeFor}
use Rattle.ch_nest.specs.CostModel.{CostModel}
use Rattle.ch_nest.specs.LoopNest.{LoopNest}
use Rattle.ch_script.specs.declared.refusal.Refusal.{Refusal}
use Rattle.ch_space.specs.Listed.{Listed}
use Rattle.ch_subject.specs.Subjects.{machine_of, nest_of}
use Rattle.ch_workload.specs.Tuned.{Tuned}

-- The text shows a program: its pieces, and well formed code that executes its list.
pub record ShowsProgram (nest : LoopNest) (p : Listed) (text : List ℕ) : Type 0 where
  pub code : UnitParts
  pub executes : IsCodeFor nest p code
  pub written : text ≡ piece_lines p.list ++ unit_text code

-- what is shown behind the line of a session: nothing, where the recipe is refused
abbrev pub ShowsMade : LoopNest → Result Listed Refusal → List ℕ → Type 0
ShowsMade nest (Ok p) text = ShowsProgram nest p text
ShowsMade nest (Err refused) text = text ≡ []

-- the text shows a session, whose costs are counted on this machine
pub record Shows (m : CostModel) (deck : DeckParts) (at : Option (List ℤ)) (s : Tuned) (text : List ℕ) : Type 0 where
  pub behind : List ℕ
  pub shows : ShowsMade (nest_of deck s) (made deck at s) behind
  pub written : text ≡ line_on m deck at s ++ behind

-- the text shows one session after another, the first of which has number k, and ends
abbrev pub ShowsFrom : DeckParts → Option (List ℤ) → ℕ → List Tuned → List ℕ → Type 0
ShowsFrom deck at k [] text = text ≡ codes "end\n"
ShowsFrom deck at k (s ∷ more) text =
    (front : List ℕ) × ((rest : List ℕ) × (Shows (machine_of deck.clients k) deck at s front × (ShowsFrom deck at (suc k) more rest × (text ≡ front ++ rest))))

-- the text shows all sessions of a deck
abbrev pub ShowsAll : DeckParts → Option (List ℤ) → List ℕ → Type 0
ShowsAll deck at text = ShowsFrom deck at 0 deck.sessions text

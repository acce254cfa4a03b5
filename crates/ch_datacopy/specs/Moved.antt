-- What is moved for a loop of a space.
use Rattle.std.specs.Prelude.{◌≡◌, ℕ, ◌+◌, ◌-◌, ℤ, List, [], ◌∷◌, ◌++◌, length}
use Rattle.ch_copied.specs.Plans.{Plan, plan}
use Rattle.ch_datacopy.specs.Sources.{AreCellsOf, Source, sources}
use Rattle.ch_datacopy.specs.declared.cells.Cells.{Cells}
use Rattle.ch_datacopy.specs.declared.moves.Moves.{Moves}
use Rattle.ch_datacopy.specs.declared.uses.Way.TheVariants.{Read, Written}
use Rattle.ch_space.specs.Listed.{Listed}
use Rattle.ch_space.specs.declared.piece.Piece.{Piece}

-- what is moved into the buffer, and then what is moved back
abbrev pub all_sources : List Piece → List ℤ → ℕ → ℕ → List Source
all_sources ps ours around array = sources Read array ours around ps ++ sources Written array ours around ps

-- the cells of all that is moved for the loop with these places behind so many others
pub record AreMoves (ps : List Piece) (ours : List ℤ) (around array : ℕ) (moves : Moves) : Type 0 where
  pub ins : moves.ins ≡ length (sources Read array ours around ps)
  pub cells : AreCellsOf around (all_sources ps ours around array) moves.all

-- how many subscripts a cell has
abbrev pub dimensions : ℕ → List Cells → ℕ
dimensions around [] = 0
dimensions around (u ∷ us) = u.levels - around

-- the plan of a piece and an array, whose buffer has the next number
abbrev pub plan_in : Listed → ℕ → ℕ → ℕ → Plan
plan_in l s around array = plan l.list s around array (l.arrays + length l.temps)

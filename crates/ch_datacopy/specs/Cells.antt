-- The cells that an access of a piece uses, as a system: its first variables are the values of the loops around the copied one and
-- the subscripts of a cell; behind them are the inner and hidden variables of the piece and its iterators.
use Rattle.std.specs.Prelude.{◌≡◌, ℕ, suc, ◌+◌, ◌-◌, ℤ, negsuc, IsTrue, List, [], ◌∷◌, ◌++◌, length, map, take, drop}
use Rattle.ch_affine.specs.Affine.{form, value}
use Rattle.ch_affine.specs.Form.{Form}
use Rattle.ch_affine.specs.Negatives.{negative}
use Rattle.ch_affine.specs.Rows.{Rows, lies_in, system}
use Rattle.ch_affine.specs.declared.system.Range.{Range}
use Rattle.ch_space.specs.Built.{zeros}
use Rattle.ch_space.specs.Pieces.{instances}
use Rattle.ch_space.specs.declared.piece.Piece.{Piece}
use Rattle.ch_timed.specs.Members.{In}

-- how many variables of each kind there are
pub record Frame : Type 0 where
  pub around : ℕ
  pub cells : ℕ
  pub inner : ℕ
  pub iters : ℕ

abbrev pub all_of : Frame → ℕ
all_of f = (f.around + f.cells) + (f.inner + f.iters)

-- the numbers with so many zeros behind the first ones
abbrev pub spliced : ℕ → ℕ → List ℤ → List ℤ
spliced first more cs = take first cs ++ (zeros more ++ drop first cs)

-- a row of the piece
abbrev pub kept_row : ℕ → ℕ → ℕ → Form → Form
kept_row around cells iters f = form (spliced around cells f.coefs ++ zeros iters) f.constant

-- a coefficient for one variable, which has so many before it and so many after it
abbrev pub at_one : ℕ → ℤ → ℕ → List ℤ
at_one before c after = zeros before ++ c ∷ zeros after

-- how much the form's value over the levels is above iterator k, which has so many after it
abbrev pub iterator_row : ℕ → ℕ → ℕ → ℕ → ℕ → Form → Form
iterator_row around cells hidden before after o =
    form ((spliced around cells o.coefs ++ zeros hidden) ++ at_one before (negsuc 0) after) o.constant

-- each iterator is the value of its form
abbrev pub iterator_ties : ℕ → ℕ → ℕ → ℕ → List Form → List Form
iterator_ties around cells hidden before [] = []
iterator_ties around cells hidden before (o ∷ os) =
    iterator_row around cells hidden before (length os) o ∷ negative (iterator_row around cells hidden before (length os) o)
    ∷ iterator_ties around cells hidden (suc before) os

-- how much the form's value over the iterators is above subscript k, which has so many after it
abbrev pub cell_row : ℕ → ℕ → ℕ → ℕ → Form → Form
cell_row around inner before after f =
    form ((zeros around ++ at_one before (negsuc 0) after) ++ (zeros inner ++ f.coefs)) f.constant

-- each subscript is the value of its form
abbrev pub cell_ties : ℕ → ℕ → ℕ → List Form → List Form
cell_ties around inner before [] = []
cell_ties around inner before (f ∷ fs) =
    cell_row around inner before (length fs) f ∷ negative (cell_row around inner before (length fs) f)
    ∷ cell_ties around inner (suc before) fs

abbrev pub inner_of : Piece → ℕ → ℕ
inner_of q around = (q.levels + q.hidden) - around

abbrev pub use_rows : Piece → ℕ → List Form → List Form
use_rows q around fs =
    map (kept_row around (length fs) (length q.origin)) q.system.rows
    ++ (iterator_ties around (length fs) q.hidden 0 q.origin ++ cell_ties around (inner_of q around) 0 fs)

-- the ranges of the variables
abbrev pub use_boxes : Piece → ℕ → List Range → List Range → List Range
use_boxes q around cells iters =
    (take around q.system.boxes ++ cells) ++ (drop around q.system.boxes ++ iters)

abbrev pub use_system : Piece → ℕ → List Form → List Range → List Range → Rows
use_system q around fs cells iters =
    system ((around + length fs) + (inner_of q around + length q.origin)) (use_rows q around fs)
    (use_boxes q around cells iters)

-- what the piece's iterators are at these values of its levels, and the cell that these forms name there
abbrev pub iterators_at : Piece → List ℤ → List ℤ
iterators_at q xs = map (λ o. value o xs) q.origin

abbrev pub cell_at : List Form → List ℤ → List ℤ
cell_at fs iters = map (λ f. value f iters) fs

-- the values around the loop, and behind them the cell that is used there
abbrev pub IsUse : Piece → ℕ → List Form → List ℤ → Type 0
IsUse q around fs ys =
    (xs : List ℤ) × In xs (instances q) × (ys ≡ take around xs ++ cell_at fs (iterators_at q xs))

-- the ranges have the iterators and the subscripts
abbrev pub AreReached : Piece → List Form → List Range → List Range → Type 0
AreReached q fs cells iters = (xs : List ℤ) → In xs (instances q)
    → IsTrue (lies_in iters (iterators_at q xs)) × IsTrue (lies_in cells (cell_at fs (iterators_at q xs)))

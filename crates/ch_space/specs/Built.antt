-- The piece of a statement.
use Rattle.std.specs.Prelude.{ℕ, zero, suc, ◌+◌, ◌-◌, ◌/◌, ℤ, pos, negsuc, neg_ℤ, ◌-ℤ◌, unsigned_abs, if◌then◌else◌, nat_eq, List, [], ◌∷◌, ◌++◌, length, map}
use Rattle.ch_affine.specs.Affine.{form}
use Rattle.ch_affine.specs.Form.{Form}
use Rattle.ch_affine.specs.Rows.{Rows, system}
use Rattle.ch_affine.specs.declared.system.Range.{Range}
use Rattle.ch_nest.specs.Shape.{box_of}
use Rattle.ch_space.specs.declared.level.Around.{Around}
use Rattle.ch_space.specs.declared.level.Around.TheVariants.{Inside, Where}
use Rattle.ch_space.specs.declared.level.Level.{Level}
use Rattle.ch_space.specs.declared.piece.Piece.{Piece}
use Rattle.ch_space.specs.Statements.{Statement, hidden_of, loops, steps}
use Rattle.ch_timed.specs.declared.element.Label.TheVariants.{Stmt}

abbrev pub zeros : ℕ → List ℤ
zeros zero = []
zeros (suc n) = pos 0 ∷ zeros n

-- so many coefficients, those after the given ones being 0
abbrev pub padded : ℕ → List ℤ → List ℤ
padded n cs = cs ++ zeros (n - length cs)

-- the loop's value is at least that of the form, which has a coefficient for each loop around it
abbrev pub low_row : ℕ → Form → Form
low_row n f = form (padded n (map neg_ℤ f.coefs ++ pos 1 ∷ [])) (neg_ℤ f.constant)

-- the loop's value is at most that of the form
abbrev pub high_row : ℕ → Form → Form
high_row n f = form (padded n (f.coefs ++ negsuc 0 ∷ [])) f.constant

-- The rows which say that a loop's value is that of the form and so many steps, as the variable with number `at` tells: at least
-- that, and at most.
abbrev pub steps_low : ℕ → ℕ → ℕ → Form → Form
steps_low n at step f =
    form (padded n (padded at (map neg_ℤ f.coefs ++ pos 1 ∷ []) ++ neg_ℤ (pos step) ∷ []))
    (neg_ℤ f.constant)

abbrev pub steps_high : ℕ → ℕ → ℕ → Form → Form
steps_high n at step f =
    form (padded n (padded at (f.coefs ++ negsuc 0 ∷ []) ++ pos step ∷ [])) f.constant

abbrev pub step_rows : ℕ → ℕ → ℕ → List Form → List Form
step_rows n at step [] = []
step_rows n at step (f ∷ fs) =
    steps_low n at step f ∷ steps_high n at step f ∷ step_rows n at step fs

-- the rows of a loop, over n variables in all, where a loop with a step has the hidden variable with number `at`
abbrev pub level_rows : ℕ → ℕ → Level → List Form
level_rows n at l =
    (if nat_eq l.step 1 then map (low_row n) l.lows else step_rows n at l.step l.lows)
    ++ map (high_row n) l.highs

-- the row of a condition, over n variables
abbrev pub padded_row : ℕ → Form → Form
padded_row n f = form (padded n f.coefs) f.constant

abbrev pub part_rows : ℕ → ℕ → Around → List Form
part_rows n at (Inside l) = level_rows n at l
part_rows n at (Where row) = padded_row n row ∷ []

-- the rows of these loops and conditions, where the first hidden variable has number `at`
abbrev pub rows_of : ℕ → ℕ → List Around → List Form
rows_of n at [] = []
rows_of n at (part ∷ more) = part_rows n at part ++ rows_of n (at + hidden_of part) more

-- the boxes of these loops, from those of the loops around them
abbrev pub boxes_from : List Range → List Around → List Range
boxes_from boxes [] = []
boxes_from boxes (Inside l ∷ more) =
    box_of boxes l.lows l.highs ∷ boxes_from (boxes ++ box_of boxes l.lows l.highs ∷ []) more
boxes_from boxes (Where row ∷ more) = boxes_from boxes more

-- how often a step may be added within a box
abbrev pub hidden_range : Range → ℕ → Range
hidden_range box step =
    record { low = pos 0; high = pos (unsigned_abs (box.high -ℤ box.low) / step) }

-- the boxes of the hidden values of loops with these boxes
abbrev pub hidden_boxes : List Range → List Around → List Range
hidden_boxes boxes [] = []
hidden_boxes [] (Inside l ∷ more) = []
hidden_boxes (b ∷ boxes) (Inside l ∷ more) =
    if nat_eq l.step 1 then hidden_boxes boxes more
    else hidden_range b l.step ∷ hidden_boxes boxes more
hidden_boxes boxes (Where row ∷ more) = hidden_boxes boxes more

-- the form of one variable, which has so many before it and so many after it
abbrev pub unit : ℕ → ℕ → Form
unit before after = form (zeros before ++ pos 1 ∷ zeros after) (pos 0)

-- the forms of n variables, which have so many before them
abbrev pub units : ℕ → ℕ → List Form
units before zero = []
units before (suc n) = unit before n ∷ units (suc before) n

-- the values of the loops, and then the hidden ones
abbrev pub system_of : List Around → Rows
system_of around =
    system (loops around + steps around) (rows_of (loops around + steps around) (loops around) around)
    (boxes_from [] around ++ hidden_boxes (boxes_from [] around) around)

abbrev pub piece_of : Statement → Piece
piece_of s = record {
  label = Stmt s.label;
  body = s.body;
  levels = loops s.around;
  hidden = steps s.around;
  system = system_of s.around;
  origin = units 0 (loops s.around);
  places = s.places;
}

-- Loops, conditions and items of a well formed nest, one below another.
use Rattle.std.specs.Prelude.{ℕ, ℤ, ◌≡◌, ◌+◌, ◌≤◌, ◌<◌, Some, IsTrue, min, List, [], ◌∷◌, ◌++◌, length, map}
use Rattle.std.specs.List.{All}
use Rattle.ch_affine.specs.Form.{Form}
use Rattle.ch_affine.specs.Rows.{lies_in}
use Rattle.ch_affine.specs.declared.system.Range.{Range}
use Rattle.ch_nest.specs.declared.nest.ArrayDecl.{ArrayDecl}
use Rattle.ch_nest.specs.declared.nest.Item.{Item}
use Rattle.ch_nest.specs.Limits.{most_statements, most_step}
use Rattle.ch_nest.specs.Shape.{all_numbered, box_of, head_fits, item_fits, items_fit, numbered, row_fits, IsSmall}
use Rattle.ch_space.specs.declared.level.Around.{Around}
use Rattle.ch_space.specs.declared.level.Around.TheVariants.{Inside, Where}
use Rattle.ch_space.specs.declared.level.Level.{Level}
use Rattle.ch_space.specs.declared.nest_pieces.Found.{Found}
use Rattle.ch_space.specs.Built.{boxes_from, piece_of}
use Rattle.ch_space.specs.Keeps.{most_instances}
use Rattle.ch_space.specs.Statements.{Finding, Statement, at_numbers, executed, instances_of}

-- each loop and condition has forms of the loops around it, and each loop a small box
abbrev pub LevelsFit : List Range → List Around → Type 0
LevelsFit boxes [] = Unit {0}
LevelsFit boxes (Inside l ∷ more) =
    IsTrue (head_fits (length boxes) l.lows l.highs l.step) × IsSmall (box_of boxes l.lows l.highs)
    × LevelsFit (boxes ++ box_of boxes l.lows l.highs ∷ []) more
LevelsFit boxes (Where row ∷ more) = IsTrue (row_fits (length boxes) row) × LevelsFit boxes more

-- such loops and conditions at a point of the boxes of the loops around them
pub record LevelsAt (around : List Around) (point : List ℤ) : Type 0 where
  pub boxes : List Range
  pub small : All IsSmall boxes
  pub inside : IsTrue (lies_in boxes point)
  pub fit : LevelsFit boxes around

-- each form of a loop has fewer coefficients than n, and the step is small
pub record IsShort (n : ℕ) (l : Level) : Type 0 where
  pub lows : All (λ f. length f.coefs < n) l.lows
  pub highs : All (λ f. length f.coefs < n) l.highs
  pub step : l.step ≤ most_step

abbrev pub IsShortPart : ℕ → Around → Type 0
IsShortPart n (Inside l) = IsShort n l
IsShortPart n (Where row) = length row.coefs ≤ n

-- items at the places of a body from `first` on: the statements before them are at least as many
pub record AreBelow (items : List Item) (around : List Around) (first : ℕ) : Type 0 where
  pub arrays : List ArrayDecl
  pub fit : LevelsFit [] around
  pub items_fit : IsTrue (items_fit arrays items (boxes_from [] around))
  pub from : ℕ
  pub to : ℕ
  pub numbered : all_numbered items from ≡ Some to
  pub few : first ≤ from
  pub most : from ≤ most_statements

pub record IsBelow (item : Item) (around : List Around) (first : ℕ) : Type 0 where
  pub arrays : List ArrayDecl
  pub fit : LevelsFit [] around
  pub item_fits : IsTrue (item_fits arrays item (boxes_from [] around))
  pub from : ℕ
  pub to : ℕ
  pub numbered : numbered item from ≡ Some to
  pub few : first ≤ from
  pub most : from ≤ most_statements

-- a number, counted up to one past the most instances of a space
abbrev pub capped : ℕ → ℕ
capped n = min n (most_instances + 1)

-- the pieces of those that are executed, and how often they are, behind the others
pub record Adds (ss : List Statement) (old new : Found) : Type 0 where
  pub pieces : new.pieces ≡ old.pieces ++ map piece_of (executed ss)
  pub counts : new.counts ≡ old.counts ++ map (λ s. capped (instances_of s)) (executed ss)

-- those of what stands at the places from `first` to before `next`
pub record Places (fs : List Finding) (around : List Around) (places : List ℕ) (first next : ℕ) (old new : Found) : Type 0 where
  pub after : next ≡ first + length fs
  pub adds : Adds (at_numbers first fs around places) old new

-- The cells that an access of a piece uses, as a value.
use Rattle.std.specs.Prelude.{◌≡◌, ◌≢◌, ◌≤◌, ◌↔◌, ◌+◌, ◌^◌, ℕ, ℤ, List, [], length, take, drop}
use Rattle.std.specs.List.{All}
use Rattle.ch_affine.specs.Affine.{IsAtMost}
use Rattle.ch_affine.specs.Form.{Form}
use Rattle.ch_datacopy.specs.declared.cells.Cells.{Cells}
use Rattle.ch_datacopy.specs.declared.rows.Frame.{Frame}
use Rattle.ch_datacopy.specs.Cells.{IsUse, cell_at, inner_of, iterators_at}
use Rattle.ch_datacopy.specs.Pairs.{IsFramed, used}
use Rattle.ch_space.specs.Keeps.{IsBounded}
use Rattle.ch_space.specs.Pieces.{instances}
use Rattle.ch_space.specs.declared.piece.Piece.{Piece}
use Rattle.ch_timed.specs.Members.{In}

-- the frame is that of the piece and these forms, and there is room for it in a system
pub record IsFit (frame : Frame) (q : Piece) (fs : List Form) : Type 0 where
  pub around : frame.around ≤ q.levels
  pub cells : frame.cells ≡ length fs
  pub inner : frame.inner ≡ inner_of q frame.around
  pub iters : frame.iters ≡ length q.origin
  pub room : (frame.around + frame.cells) + (frame.inner + frame.iters) ≤ 4096
  pub long : All (λ f. length f.coefs ≡ length q.origin) fs

-- the piece has an instance, and at each its iterators and the subscripts are small
pub record AreNear (q : Piece) (fs : List Form) : Type 0 where
  pub some : instances q ≢ []
  pub iterators : (xs : List ℤ) → In xs (instances q) → All (IsAtMost (2 ^ 54)) (iterators_at q xs)
  pub cells : (xs : List ℤ) → In xs (instances q) → All (IsAtMost (2 ^ 18)) (cell_at fs (iterators_at q xs))

-- the system's first variables have the values around and the cells that are used behind them
pub record IsCellsOf (q : Piece) (around : ℕ) (fs : List Form) (u : Cells) : Type 0 where
  pub framed : IsFramed around (length fs) u
  pub vars : u.system.vars ≡ u.levels + u.hidden
  pub few : u.levels + u.hidden ≤ (q.levels + q.hidden) + (length fs + length q.origin)
  pub exact : (ys : List ℤ) → In ys (used u) ↔ IsUse q around fs ys
  pub front : take around u.system.boxes ≡ take around q.system.boxes
  pub cells : All (IsBounded (2 ^ 18)) (drop around (take u.levels u.system.boxes))

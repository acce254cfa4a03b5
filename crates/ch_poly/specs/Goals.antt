-- What a point has to meet, and what a search over a box says of the points that do.
use Rattle.std.specs.Prelude.{ℤ, pos, ◌≡◌, ◌≤ℤ◌, ◌<ℤ◌, ◌⊎◌, List, [], ◌∷◌}
use Rattle.std.specs.List.{All}
use Rattle.ch_affine.specs.Form.{Form}
use Rattle.ch_affine.specs.Affine.{value}
use Rattle.ch_poly.specs.Boxes.{Within}

-- the form's value at the point is at least the bound
pub record IsAtLeast (bound : ℤ) (f : Form) (p : List ℤ) : Type 0 where
  pub reached : bound ≤ℤ value f p

-- each row's value at the point is at least the bound
pub record Reaches (bound : ℤ) (rows : List Form) (p : List ℤ) : Type 0 where
  pub each : All (λ f. bound ≤ℤ value f p) rows

-- the rows are at least 0 at the point, and the tops at least the bound
pub record Meets (rows tops : List Form) (bound : ℤ) (p : List ℤ) : Type 0 where
  pub by_rows : Reaches (pos 0) rows p
  pub by_tops : Reaches bound tops p

-- no point of the first box with P is outside the second
pub record Keeps (P : List ℤ → Type 0) (lows highs lows' highs' : List ℤ) : Type 0 where
  pub kept : (p : List ℤ) → Within lows highs p → P p → Within lows' highs' p

-- no point of the box has P
pub record IsEmpty (P : List ℤ → Type 0) (lows highs : List ℤ) : Type 0 where
  pub none : (p : List ℤ) → Within lows highs p → P p → ⊥

-- at the first place where they differ, the first list is less
abbrev pub NotAfter : List ℤ → List ℤ → Type 0
NotAfter [] q = Unit {0}
NotAfter (x ∷ p) [] = ⊥
NotAfter (x ∷ p) (y ∷ q) = (x <ℤ y) ⊎ ((x ≡ y) × NotAfter p q)

-- the lexicographically least point of the box with P
pub record IsLeast (P : List ℤ → Type 0) (lows highs p : List ℤ) : Type 0 where
  pub within : Within lows highs p
  pub holds : P p
  pub least : (q : List ℤ) → Within lows highs q → P q → NotAfter p q

-- What the parts of a change of variables keep.
use Rattle.std.specs.Prelude.{◌≡◌, ℕ, ◌+◌, ◌≤◌, ◌↔◌, ℤ, ◌&&◌, IsTrue, List, length, ◌++◌, take}
use Rattle.std.specs.List.{All, filter}
use Rattle.ch_affine.specs.Affine.{IsSmall, value}
use Rattle.ch_affine.specs.Form.{Form}
use Rattle.ch_affine.specs.Rows.{Rows, all_hold, lies_in}
use Rattle.ch_affine.specs.declared.system.Range.{Range}
use Rattle.ch_moved.specs.Substituted.{image, substituted}
use Rattle.ch_poly.specs.Points.{begins_some, box_points}
use Rattle.ch_timed.specs.Members.{In}

-- each form has so many coefficients
abbrev pub AllLong : ℕ → List Form → Type 0
AllLong n = All (λ f. length f.coefs ≡ n)

-- the values of the first variables that some point of the system begins with
abbrev pub fronts : ℕ → Rows → List (List ℤ)
fronts n s = filter (begins_some s) (box_points (take n s.boxes))

-- In the boxes, the rows hold where the extra ones hold and the forms give values in their ranges.
pub record AreConditions (boxes : List Range) (gs : List Form) (ranges : List Range) (extra rows : List Form) : Type 0 where
  pub long : AllLong (length boxes) rows
  pub hold : (ys : List ℤ) → IsTrue (lies_in boxes ys)
      → all_hold rows ys ≡ (all_hold extra ys && lies_in ranges (image gs ys))

-- Over values of the new variables and those of the old ones that they give, the new row has the old one's value.
pub record IsOver (n : ℕ) (gs : List Form) (row new : Form) : Type 0 where
  pub long : length new.coefs ≡ n + length row.coefs
  pub same : (ys hs : List ℤ) → length ys ≡ n
      → value new (ys ++ (image gs ys ++ hs)) ≡ value row (image gs ys ++ hs)

-- There the new rows hold where the old ones do.
pub record AreOver (n old : ℕ) (gs rows new : List Form) : Type 0 where
  pub long : AllLong (n + old) new
  pub hold : (ys hs : List ℤ) → length ys ≡ n
      → all_hold new (ys ++ (image gs ys ++ hs)) ≡ all_hold rows (image gs ys ++ hs)

-- Such rows stand behind other rows.
pub record StandOver (before : List Form) (n old : ℕ) (gs rows new : List Form) : Type 0 where
  pub over : List Form
  pub behind : new ≡ before ++ over
  pub are : AreOver n old gs rows over

-- The system over new variables, from which forms give the first ones of the old system.
pub record IsChanged (old : Rows) (gs : List Form) (ranges : List Range) (extra : List Form) (s : Rows) : Type 0 where
  pub boxes : take (length ranges) s.boxes ≡ ranges
  pub least : length ranges ≤ s.vars
  pub most : s.vars ≤ length ranges + old.vars
  pub plain : All (λ f. IsSmall (substituted (length ranges) gs f)) old.rows
      → s.vars + length gs ≡ length ranges + old.vars
  pub is_front : (ys : List ℤ) → In ys (fronts (length ranges) s)
      ↔ (IsTrue (lies_in ranges ys) × IsTrue (all_hold extra ys) × In (image gs ys) (fronts (length gs) old))

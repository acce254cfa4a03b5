-- What a flattened nest does: each access is one affine form, the flat index of its cell among all cells.
-- A point has the values of six loops, of which those that do not stand around have no meaning.
use Rattle.std.specs.Prelude.{◌≡◌, ℕ, ℤ, pos, ◌+ℤ◌, ◌-ℤ◌, ◌*ℤ◌, neg_ℤ, unsigned_abs, if◌then◌else◌, IsTrue, List, [], ◌∷◌, map, length, take, slice_index_or, slice_set}
use Rattle.std.specs.Int.{int_wrap, w64}
use Rattle.ch_affine.specs.Form.{Form}
use Rattle.ch_affine.specs.Affine.{value}
use Rattle.ch_affine.specs.declared.system.Range.{Range}
use Rattle.ch_nest.specs.declared.nest.Access.{Access}
use Rattle.ch_nest.specs.declared.nest.ArrayDecl.{ArrayDecl}
use Rattle.ch_nest.specs.declared.nest.Expr.{Expr}
use Rattle.ch_nest.specs.declared.nest.Item.{Item}
use Rattle.ch_nest.specs.declared.nest.Sub.{Sub}
use Rattle.ch_nest.specs.declared.flat.FlatExpr.{FlatExpr}
use Rattle.ch_nest.specs.declared.flat.FlatExpr.TheOpen.{FlatExpr-F}
use Rattle.ch_nest.specs.declared.flat.FlatExpr.TheFolds.{fold-FlatExpr}
use Rattle.ch_nest.specs.declared.flat.FlatItem.{FlatItem}
use Rattle.ch_nest.specs.declared.flat.FlatItem.TheOpen.{FlatItem-F}
use Rattle.ch_nest.specs.declared.flat.FlatItem.TheFolds.{fold-FlatItem}
use Rattle.ch_nest.specs.Arrays.{extents_of, row_major, within}
use Rattle.ch_nest.specs.At.{IsAt}
use Rattle.ch_nest.specs.Limits.{most_affine}
use Rattle.ch_nest.specs.Run.{Change, expr_value, in_order, is_met, place, run_item, sub_value, turns, values_at}
use Rattle.ch_nest.specs.Shape.{is_at_most, item_fits, items_fit}
use Rattle.ch_nest.specs.Sound.{access_inside, expr_inside, item_inside}

abbrev pub wrapped : Form → List ℤ → ℤ
wrapped f point = int_wrap w64 (value f point)

abbrev pub flat_place : Form → List ℤ → ℕ
flat_place f point = unsigned_abs (wrapped f point)

abbrev pub flat_step : List ℤ → List ℤ → FlatExpr-F ℤ → ℤ
flat_step point cells (FlatExpr-F.Number n) = n
flat_step point cells (FlatExpr-F.Iter k) = slice_index_or point k (pos 0)
flat_step point cells (FlatExpr-F.Read f) = slice_index_or cells (flat_place f point) (pos 0)
flat_step point cells (FlatExpr-F.Neg x) = int_wrap w64 (neg_ℤ x)
flat_step point cells (FlatExpr-F.Add x y) = int_wrap w64 (x +ℤ y)
flat_step point cells (FlatExpr-F.Sub x y) = int_wrap w64 (x -ℤ y)
flat_step point cells (FlatExpr-F.Mul x y) = int_wrap w64 (x *ℤ y)

abbrev pub flat_value : List ℤ → List ℤ → FlatExpr → ℤ
flat_value point cells = fold-FlatExpr ℤ (flat_step point cells)

-- the values of a well formed nest's loops are near
abbrev pub near : ℤ → ℤ
near z = if is_at_most most_affine z then z else pos 0

abbrev pub flat_item_step : FlatItem-F Change → Change
flat_item_step (FlatItem-F.Loop level lows highs step items) point cells =
    turns (values_at lows highs step point) (λ i. in_order items (slice_set point level (near i))) cells
flat_item_step (FlatItem-F.If row items) point cells = if is_met row point then in_order items point cells else cells
flat_item_step (FlatItem-F.Assign write right) point cells = slice_set cells (flat_place write point) (flat_value point cells right)

abbrev pub run_flat : FlatItem → Change
run_flat = fold-FlatItem Change flat_item_step

abbrev pub run_flats : List FlatItem → Change
run_flats items = in_order (map run_flat items)

-- forms that stand for places

pub record IsPlain (depth constant : ℕ) (f : Form) : Type 0 where
  pub same : length f.coefs ≡ depth
  pub everywhere : (point : List ℤ) → value f point ≡ pos constant

-- a form that goes on from the flat index of the subscripts before
abbrev pub IsRowMajor : Form → List ℕ → List Sub → Form → Type 0
IsRowMajor at extents subs f =
    (point : List ℤ) (k : ℕ) → value at point ≡ pos k → IsTrue (within extents (map (sub_value point) subs))
    → value f point ≡ pos (row_major k extents (map (sub_value point) subs))

-- flattened parts have the meaning of what they were made from

abbrev pub IsFlatPlace : List ArrayDecl → ℕ → Access → Form → Type 0
IsFlatPlace arrays depth a f =
    (point : List ℤ) → length point ≡ 6 → IsTrue (access_inside (extents_of arrays) (take depth point) a) → flat_place f point ≡ place (extents_of arrays) a (take depth point)

abbrev pub IsFlatExpr : List ArrayDecl → ℕ → Expr → FlatExpr → Type 0
IsFlatExpr arrays depth e f =
    (point cells : List ℤ) → length point ≡ 6 → IsTrue (expr_inside (extents_of arrays) (take depth point) e) → flat_value point cells f ≡ expr_value (extents_of arrays) (take depth point) cells e

abbrev pub IsFlatItem : List ArrayDecl → ℕ → Item → FlatItem → Type 0
IsFlatItem arrays depth i f =
    (point cells : List ℤ) → length point ≡ 6 → IsAt arrays i (take depth point) → IsTrue (item_inside (extents_of arrays) i (take depth point))
    → run_flat f point cells ≡ run_item (extents_of arrays) i (take depth point) cells

abbrev pub AreFlat : List ArrayDecl → ℕ → List Item → List FlatItem → Type 0
AreFlat arrays depth [] [] = Unit {0}
AreFlat arrays depth [] (f ∷ fs) = ⊥
AreFlat arrays depth (i ∷ is) [] = ⊥
AreFlat arrays depth (i ∷ is) (f ∷ fs) = IsFlatItem arrays depth i f × AreFlat arrays depth is fs

-- items that fit below so many loops
pub record FitBelow (arrays : List ArrayDecl) (items : List Item) (depth : ℕ) : Type 0 where
  pub boxes : List Range
  pub loops : length boxes ≡ depth
  pub fit : IsTrue (items_fit arrays items boxes)

pub record FitsBelow (arrays : List ArrayDecl) (item : Item) (depth : ℕ) : Type 0 where
  pub boxes : List Range
  pub loops : length boxes ≡ depth
  pub fit : IsTrue (item_fits arrays item boxes)

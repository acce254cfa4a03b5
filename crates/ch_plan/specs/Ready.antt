-- Accesses made ready: what a sum, a residue and a spot have to do with the forms that they were made from.
use Rattle.std.specs.Prelude.{◌≡◌, ◌≤◌, ◌<◌, ℕ, ◌^◌, ℤ, pos, ◌+ℤ◌, ◌*ℤ◌, IsTrue, List, [], ◌∷◌, length, map, take, slice_index_or}
use Rattle.std.specs.Int.{int_wrap, w64}
use Rattle.std.specs.List.{All}
use Rattle.ch_affine.specs.Affine.{IsAtMost, IsSmall, dot, value}
use Rattle.ch_affine.specs.Form.{Form}
use Rattle.ch_nest.specs.declared.nest.Access.{Access}
use Rattle.ch_nest.specs.declared.nest.Sub as sub
use Rattle.ch_nest.specs.Arrays.{cells_in, total, within_array}
use Rattle.ch_nest.specs.Run.{place, sub_value, subscripts}
use Rattle.ch_plan.specs.declared.accesses.Draft.{Draft}
use Rattle.ch_plan.specs.declared.accesses.Placed.{Placed}
use Rattle.ch_plan.specs.declared.plan.Residue.{Residue}
use Rattle.ch_plan.specs.declared.plan.Spot.{Spot}
use Rattle.ch_plan.specs.declared.plan.Sum.{Sum}
use Rattle.ch_plan.specs.Planned.{residue_value, residues_value, spot_place, weighed}

-- the arrays

abbrev pub extents_in : List Placed → List (List ℕ)
extents_in placed = map (λ p. p.extents) placed

-- each array begins where those before it end, modulo 2^64
abbrev pub AreBases : List Placed → Type 0
AreBases placed = (k : ℕ) (d : Placed) → k < length placed → (slice_index_or placed k d).base ≡ int_wrap w64 (pos (total (take k (extents_in placed))))

-- accesses

-- a sum with the constant and the values of a form
pub record IsSumOf (f : Form) (s : Sum) : Type 0 where
  pub small : IsSmall f
  pub constant : s.constant ≡ f.constant
  pub terms : (point : List ℤ) → weighed s.terms point ≡ dot f.coefs point

-- each form is one of so many variables
abbrev pub HaveDepth : ℕ → List Form → Type 0
HaveDepth depth forms = All (λ f. length f.coefs ≡ depth) forms

-- each subscript is a form of so many iterators
abbrev pub SubsFit : ℕ → List sub.Sub → Type 0
SubsFit iterators subs = All (λ s. length s.form.coefs ≡ iterators) subs

-- the iterators of a statement, at the values of the loops around
abbrev pub iters_at : List Form → List ℤ → List ℤ
iters_at origin xs = map (λ f. value f xs) origin

-- a point that has the values of so many loops, at which the iterators are small
pub record IsPoint (origin : List Form) (around : ℕ) (point : List ℤ) : Type 0 where
  pub long : around ≤ length point
  pub iters : All (IsAtMost (2 ^ 54)) (iters_at origin (take around point))

-- the value of a draft without its residues, and with them

abbrev pub formed : Draft → List ℤ → ℤ
formed d xs = d.constant +ℤ dot d.coefs.items xs

abbrev pub drafted : Draft → ℕ → List ℤ → ℤ
drafted d around point = formed d (take around point) +ℤ residues_value d.residues point

pub record IsResidue (origin : List Form) (around : ℕ) (s : sub.Sub) (stride : ℤ) (r : Residue) : Type 0 where
  pub stride_is : r.stride ≡ stride
  pub value_is : (point : List ℤ) → IsPoint origin around point → residue_value r point ≡ sub_value (iters_at origin (take around point)) s

-- the flat index of subscripts, by what a step of each is worth
abbrev pub strided : List ℕ → List ℤ → ℤ
strided [] subs = pos 0
strided (e ∷ es) [] = pos 0
strided (e ∷ es) (s ∷ ss) = pos (cells_in es) *ℤ s +ℤ strided es ss

-- the place of an access that stays inside its array
abbrev pub IsSpot : List (List ℕ) → List Form → ℕ → Access → Spot → Type 0
IsSpot extents origin around a spot =
    (point : List ℤ) → IsPoint origin around point → total extents < 2 ^ 63 → IsTrue (within_array extents a.array (subscripts a (iters_at origin (take around point))))
    → spot_place point spot ≡ place extents a (iters_at origin (take around point))

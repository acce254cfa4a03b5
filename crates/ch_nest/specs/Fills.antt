-- The cells that a program starts with.
use Rattle.std.specs.Prelude.{ℕ, zero, suc, ℤ, pos, ◌+ℤ◌, ◌*ℤ◌, List, [], ◌∷◌, ◌++◌}
use Rattle.std.specs.Int.{int_wrap, w64}
use Rattle.ch_nest.specs.declared.nest.ArrayDecl.{ArrayDecl}
use Rattle.ch_nest.specs.declared.nest.Fill.{Fill}
use Rattle.ch_nest.specs.Arrays.{cells_in}

-- the element with flat index q
abbrev pub filled : Fill → ℕ → ℤ
filled f q = int_wrap w64 (f.a *ℤ pos q +ℤ f.b)

-- the first n elements
abbrev pub first_filled : ℕ → Fill → List ℤ
first_filled zero f = []
first_filled (suc n) f = first_filled n f ++ filled f n ∷ []

-- array by array
abbrev pub filled_cells : List ArrayDecl → List Fill → List ℤ
filled_cells [] fills = []
filled_cells (d ∷ ds) [] = []
filled_cells (d ∷ ds) (f ∷ fs) = first_filled (cells_in d.extents) f ++ filled_cells ds fs

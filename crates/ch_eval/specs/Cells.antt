-- The cells of a program's arrays: one list for each array, and the same cells one array behind another.
use Rattle.std.specs.Prelude.{◌≡◌, ◌<◌, ℕ, ◌^◌, ℤ, List, [], ◌∷◌, ◌++◌, drop, length, map, slice_index_or, sum, take}
use Rattle.ch_code.specs.UnitParts.{UnitParts}
use Rattle.ch_nest.specs.Arrays.{cells_in, extents_of}
use Rattle.ch_nest.specs.declared.nest.ArrayDecl.{ArrayDecl}

-- the cells of all arrays, one array behind another
abbrev pub joined : List (List ℤ) → List ℤ
joined [] = []
joined (array ∷ more) = array ++ joined more

-- how many cells each declared array has
abbrev pub sizes_of : List ArrayDecl → List ℕ
sizes_of arrays = map (λ d. cells_in d.extents) arrays

-- the cells of arrays of these sizes, cut out of the cells of all
abbrev pub parts : List ℕ → List ℤ → List (List ℤ)
parts [] cells = []
parts (n ∷ ns) cells = take n cells ∷ parts ns (drop n cells)

-- the sizes make up all cells, and each array has its first cell behind the arrays before it
pub record HasParts (sizes firsts : List ℕ) (cells : List ℤ) : Type 0 where
  pub whole : sum sizes ≡ length cells
  pub count : length firsts ≡ length sizes
  pub starts : (k : ℕ) → k < length sizes → slice_index_or firsts k 0 ≡ sum (take k sizes)

-- the extents of a unit's arrays and then those of its buffers
abbrev pub unit_extents : UnitParts → List (List ℕ)
unit_extents u = extents_of u.arrays ++ u.temps

-- no vector has as many cells
abbrev pub most_length : ℕ
most_length = 2 ^ 63

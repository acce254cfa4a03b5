-- The text of `eval`.
use Rattle.std.specs.Prelude.{ℕ, ℤ, pos, ◌+◌, ◌+ℤ◌, ◌*ℤ◌, Bool, true, false, List, [], ◌∷◌, ◌++◌, codes, take, drop}
use Rattle.std.specs.Int.{int_wrap, w64}
use Rattle.std.specs.List.{flat_map}
use Rattle.ch_deck.specs.declared.program.Program.{Program}
use Rattle.ch_nest.specs.declared.nest.ArrayDecl.{ArrayDecl}
use Rattle.ch_nest.specs.Arrays.{cells_in}
use Rattle.ch_nest.specs.Fills.{filled_cells}
use Rattle.ch_nest.specs.Run.{run}
use Rattle.ch_print.specs.Numbers.{integer_text, number_text}

-- an extent in brackets
abbrev pub extent_text : ℕ → List ℕ
extent_text e = codes "[" ++ number_text e ++ codes "]"

-- a number after a space
abbrev pub element_text : ℤ → List ℕ
element_text z = codes " " ++ integer_text z

-- each element times its place, counted from k
abbrev pub weighted_from : ℕ → List ℤ → ℤ
weighted_from k [] = pos 0
weighted_from k (z ∷ zs) = pos k *ℤ z +ℤ weighted_from (k + 1) zs

-- the sum of the elements, each times its place counted from 1, as it wraps round at 64 bits
abbrev pub sum_of : List ℤ → ℤ
sum_of cells = int_wrap w64 (weighted_from 1 cells)

-- an array's elements, or their sum alone
abbrev pub cells_text : Bool → List ℤ → List ℕ
cells_text true cells = codes " sum " ++ integer_text (sum_of cells)
cells_text false cells = codes ":" ++ flat_map element_text cells

-- an array's name, its extents, and its elements or their sum
unfoldable pub array_line : Bool → ArrayDecl → List ℤ → List ℕ
array_line sums d cells = d.name ++ flat_map extent_text d.extents ++ cells_text sums cells ++ codes "\n"

-- a line for each array, whose cells stand one after the other
abbrev pub array_lines : Bool → List ArrayDecl → List ℤ → List ℕ
array_lines sums [] cells = []
array_lines sums (d ∷ ds) cells = array_line sums d (take (cells_in d.extents) cells) ++ array_lines sums ds (drop (cells_in d.extents) cells)

-- the cells of a program after its nest has run once from its fills
abbrev pub cells_after : Program → List ℤ
cells_after p = run p.nest (filled_cells p.nest.arrays p.fills)

-- a program's name and its arrays
unfoldable pub program_text : Bool → Program → List ℕ
program_text sums p = codes "program " ++ p.name ++ codes "\n" ++ array_lines sums p.nest.arrays (cells_after p)

-- of all programs, with all elements or with sums alone
unfoldable pub eval_text : Bool → List Program → List ℕ
eval_text sums ps = flat_map (program_text sums) ps ++ codes "end\n"

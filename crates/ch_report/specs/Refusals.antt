-- The text of a refusal: the command's number and the cause, or the two instances that would change places, and their cell.
use Rattle.std.specs.Prelude.{ℕ, ℤ, ◌-◌, ◌||◌, nat_eq, Option, Some, None, if◌then◌else◌, List, [], ◌++◌, codes, length, slice_get}
use Rattle.std.specs.List.{flat_map}
use Rattle.ch_nest.specs.declared.cause.Shape as shape
use Rattle.ch_nest.specs.declared.nest.ArrayDecl.{ArrayDecl}
use Rattle.ch_print.specs.Instances.{buffer_text, cell_text, identity_text, subscript_text}
use Rattle.ch_print.specs.Numbers.{integer_text, number_text}
use Rattle.ch_script.specs.declared.refusal.Refusal.{Refusal}
use Rattle.ch_script.specs.declared.refusal.Refusal.TheVariants.{Shape, Illegal}
use Rattle.ch_timed.specs.declared.element.Cell.{Cell}
use Rattle.ch_timed.specs.declared.element.Identity.{Identity}

-- the number of a cause, which C3 and C10 don't have
abbrev pub cause_text : ℕ → ℤ → List ℕ
cause_text code z = if nat_eq code 3 || nat_eq code 10 then [] else codes " " ++ integer_text z

-- as `shape at 2: C4 65`
unfoldable pub shape_text : ℕ → shape.Shape → List ℕ
shape_text step cause =
    codes "shape at " ++ number_text step ++ codes ": C" ++ number_text cause.code ++ cause_text cause.code cause.number

abbrev pub buffer_cell : ℕ → List ℤ → List ℕ
buffer_cell k subscripts = buffer_text k ++ flat_map subscript_text subscripts

abbrev pub cell_if : ℕ → List ℤ → Option ArrayDecl → List ℕ
cell_if k subscripts (Some array) = cell_text array.name subscripts
cell_if k subscripts None = buffer_cell k subscripts

-- a cell of a declared array by its name, or of a buffer: those are numbered on behind the arrays
abbrev pub cell_of : List ArrayDecl → Cell → List ℕ
cell_of arrays c = cell_if (c.array - length arrays) c.subs (slice_get arrays c.array)

-- as `illegal at 1: S0(1,1) before S0(2,0) on A[1][1]`
unfoldable pub illegal_text : List ArrayDecl → ℕ → Identity → Identity → Cell → List ℕ
illegal_text arrays step first second cell =
    codes "illegal at " ++ number_text step ++ codes ": " ++ identity_text first ++ codes " before " ++ identity_text second
    ++ codes " on " ++ cell_of arrays cell

abbrev pub refusal_text : List ArrayDecl → Refusal → List ℕ
refusal_text arrays (Shape step cause) = shape_text step cause
refusal_text arrays (Illegal step first second cell) = illegal_text arrays step first second cell

-- The limits of a program.
use Rattle.std.specs.Prelude.{ℕ, ◌^◌}

-- loops around one another
abbrev pub deepest : ℕ
deepest = 6

-- conditions around one another
abbrev pub most_conditions : ℕ
most_conditions = 32

-- what is added to a loop's value from turn to turn
abbrev pub most_step : ℕ
most_step = 64

abbrev pub most_statements : ℕ
most_statements = 16

-- numbers, names and accesses of one right side
abbrev pub most_operands : ℕ
most_operands = 256

-- parentheses and minus signs around one another
abbrev pub most_nesting : ℕ
most_nesting = 32

-- forms of a `max` or a `min`
abbrev pub most_forms : ℕ
most_forms = 4

-- the magnitude of a coefficient, of a constant and of a loop's ends in affine text
abbrev pub most_affine : ℕ
most_affine = 2 ^ 30

-- the magnitude of a number
abbrev pub most_number : ℕ
most_number = 2 ^ 31

abbrev pub most_dimensions : ℕ
most_dimensions = 4

-- cells of all arrays
abbrev pub most_cells : ℕ
most_cells = 262144

-- turns of all loops and instances of all statements
abbrev pub most_work : ℕ
most_work = 1048576

-- a machine's cost of a turn and of a miss
abbrev pub most_charge : ℕ
most_charge = 2 ^ 20

-- lines of a cache, and cells of a line
abbrev pub most_cache : ℕ
most_cache = 4096

-- the magnitude of the numbers at which forms are valued
abbrev pub most_value : ℕ
most_value = 2 ^ 54

-- The limits under which no sum or product of this crate wraps.
use Rattle.std.specs.Prelude.{ℕ, ◌^◌}

-- the coefficients of a form, and the variables of a system
abbrev pub most_variables : ℕ
most_variables = 4096

-- the magnitude of a coefficient and of a constant
abbrev pub largest_coefficient : ℕ
largest_coefficient = 2 ^ 60

-- the magnitude of a number of a point, and of an end of a range
abbrev pub largest_end : ℕ
largest_end = 2 ^ 54

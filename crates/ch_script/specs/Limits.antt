-- The limits of a recipe.
use Rattle.std.specs.Prelude.{ℕ, ◌^◌}

abbrev pub most_params : ℕ
most_params = 6

abbrev pub most_commands : ℕ
most_commands = 32

-- conditions between the parameters
abbrev pub most_conditions : ℕ
most_conditions = 8

-- terms of one condition, both sides together
abbrev pub most_terms : ℕ
most_terms = 2 ^ 20

abbrev pub deepest_level : ℕ
deepest_level = 10

-- The limits of sessions and clients.
use Rattle.std.specs.Prelude.{ℕ}

-- measurements of a trial that a session asks for
abbrev pub most_repeats : ℕ
most_repeats = 9

-- calls of one client
abbrev pub most_calls : ℕ
most_calls = 10000

abbrev pub most_points : ℕ
most_points = 65536

-- what a deck may declare
abbrev pub most_programs : ℕ
most_programs = 16

abbrev pub most_recipes : ℕ
most_recipes = 16

abbrev pub most_sessions : ℕ
most_sessions = 8

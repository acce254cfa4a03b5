-- The limits of a deck.
use Rattle.std.specs.Prelude.{ℕ}

abbrev pub most_bytes : ℕ
most_bytes = 1048576

abbrev pub most_programs : ℕ
most_programs = 16

abbrev pub most_recipes : ℕ
most_recipes = 16

abbrev pub most_sessions : ℕ
most_sessions = 8

abbrev pub most_clients : ℕ
most_clients = 16

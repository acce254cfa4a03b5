-- What several reads and writes do to bytes that are told.
use Rattle.std.specs.Prelude.{ℕ, ◌<◌, ◌≤◌, List, length, take}
use Rattle.std.specs.declared.option.Option.{Option}
use Rattle.std.specs.Io.KnownBytes.{Appends, Consumes}

-- some bytes, at most so many, are gone from the front of what is told
abbrev pub LosesFront : ℕ → Option (List ℕ) → Option (List ℕ) → Type 0
LosesFront most old new = (bytes : List ℕ) × (length bytes ≤ most) × Consumes old new bytes

-- the front of a text was appended to what is told, and not all of the text
abbrev pub AppendsPart : Option (List ℕ) → Option (List ℕ) → List ℕ → Type 0
AppendsPart old new text = (n : ℕ) × (n < length text) × Appends old new (take n text)

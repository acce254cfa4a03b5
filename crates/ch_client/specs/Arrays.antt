-- A client's cells: each program has run once for each call of a session of it.
use Rattle.std.specs.Prelude.{◌≡◌, ℕ, ◌<◌, List, [], map, length, slice_index_or, ℤ}
use Rattle.ch_conduct.specs.Fits.{run_times, cells_after}
use Rattle.ch_conduct.specs.Lines.{times_in}
use Rattle.ch_conduct.specs.Meaning.{Meaning, program_of}

-- the programs of the calls of these sessions
abbrev pub programs_of : Meaning → List ℕ → List ℕ
programs_of m sessions = map (program_of m) sessions

-- the cells of each program before the first call
abbrev pub AreFilled : Meaning → ℕ → List (List ℤ) → Type 0
AreFilled m n arrays = (length arrays ≡ m.programs) × ((p : ℕ) (d : List ℤ) → p < m.programs → slice_index_or arrays p d ≡ m.filled n p)

-- and after calls of these sessions
abbrev pub HaveRun : Meaning → List ℕ → List (List ℤ) → List (List ℤ) → Type 0
HaveRun m sessions first arrays = (length arrays ≡ length first)
    × ((p : ℕ) → p < length first → slice_index_or arrays p [] ≡ run_times (m.run p) (times_in p (programs_of m sessions)) (slice_index_or first p []))

abbrev pub CellsAre : Meaning → ℕ → List ℕ → List (List ℤ) → Type 0
CellsAre m n sessions arrays = (p : ℕ) → p < m.programs → slice_index_or arrays p [] ≡ cells_after m n (programs_of m sessions) p

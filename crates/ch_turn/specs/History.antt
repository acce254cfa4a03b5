-- Histories that grow.
use Rattle.std.specs.Prelude.{◌≡◌, ℕ, ◌<◌, ◌++◌, true, ltb, cond, List, length, All}
use Rattle.ch_turn.specs.Holdings.{has_number, own_entries, entries_of}

-- the second history is the first one and what came later
abbrev pub IsPrefix : {E : Type 0} → List E → List E → Type 0
IsPrefix {E} xs ys = (later : List E) × (ys ≡ xs ++ later)

-- the longer of two histories, and the shorter
abbrev pub longer : {E : Type 0} → List E → List E → List E
longer xs ys = cond (ltb (length xs) (length ys)) ys xs

abbrev pub shorter : {E : Type 0} → List E → List E → List E
shorter xs ys = cond (ltb (length xs) (length ys)) xs ys

-- the second history is the first one and entries that all carry one of the numbers held
abbrev pub AddsOwn : {E : Type 0} → (E → ℕ) → List (ℕ × List E) → List E → List E → Type 0
AddsOwn {E} by holdings xs ys = (own : ℕ) × (own < 65536) × (has_number own holdings ≡ true) × ((more : List E) × (ys ≡ xs ++ more) × All (λ e. by e ≡ own) more)

-- of each number held, the own entries are exactly those of the history
abbrev pub KnowsOwn : {E : Type 0} → (E → ℕ) → List E → List (ℕ × List E) → Type 0
KnowsOwn by history holdings = (n : ℕ) → has_number n holdings ≡ true → entries_of by n history ≡ own_entries n holdings

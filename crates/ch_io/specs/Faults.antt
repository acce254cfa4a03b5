-- Counts of failed calls.
use Rattle.std.specs.Prelude.{ℕ, ◌≡◌, ◌+◌, ◌-◌, ◌^◌, ◌<◌, ◌⊎◌, min, Result, Ok, Err}

-- the last value of a count, the greatest number of 64 bits
abbrev pub last_count : ℕ
last_count = 2 ^ 64 - 1

-- the next count, where there is one
abbrev pub raised : ℕ → ℕ
raised count = min (count + 1) last_count

-- the count is greater than before, or stands at its last value, where it can rise no more
abbrev pub HasRisen : ℕ → ℕ → Type 0
HasRisen before now = (before < now) ⊎ (now ≡ last_count)

-- the count of failed calls after one more call
abbrev pub faults_after : {T E : Type 0} → ℕ → Result T E → ℕ
faults_after faults (Ok _) = faults
faults_after faults (Err _) = raised faults

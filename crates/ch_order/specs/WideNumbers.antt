-- Whole numbers in two parts, for sums that are too large for 128 bits.
use Rattle.std.specs.Prelude.{ℤ, pos, ◌+ℤ◌, ◌*ℤ◌, ◌≤ℤ◌, ◌<ℤ◌, ◌^◌}

-- the number of these parts
abbrev pub number : ℤ → ℤ → ℤ
number high low = high *ℤ pos (2 ^ 64) +ℤ low

-- the lower part of a number; no other one makes the same number
abbrev pub IsLowPart : ℤ → Type 0
IsLowPart low = (pos 0 ≤ℤ low) × (low <ℤ pos (2 ^ 64))

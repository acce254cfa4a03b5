-- Divisors.
use Rattle.std.specs.Prelude.{ℕ, ◌^◌, ◌<◌, ◌≤◌}
use Rattle.ch_plan.specs.declared.divisor.Divisor.{Divisor}
use Rattle.ch_plan.specs.declared.divisor.Divisor.TheVariants.{Power, Number}

abbrev pub number_of : Divisor → ℕ
number_of (Power k) = 2 ^ k
number_of (Number n) = n

abbrev pub IsDivisor : Divisor → Type 0
IsDivisor (Power k) = k < 32
IsDivisor (Number n) = 1 ≤ n

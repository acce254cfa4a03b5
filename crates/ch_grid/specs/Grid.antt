-- Parameters, and which of them make a grid.
use Rattle.std.specs.Prelude.{ℕ, ℤ, pos, ◌+◌, ◌-◌, ◌/◌, ◌^◌, ◌+ℤ◌, ◌-ℤ◌, ◌*ℤ◌, min, Bool, not, ◌&&◌, nat_le, int_le, unsigned_abs, List, length, map, Option, Some, None, if◌then◌else◌}
use Rattle.std.specs.List.{list_all, position}
use Rattle.ch_grid.specs.declared.param.Param.{Param}
use Rattle.ch_grid.specs.declared.grid.GridError.{GridError}
use Rattle.ch_grid.specs.declared.grid.GridError.TheVariants.{BadParam, TooManyPoints}
use Rattle.ch_grid.specs.Points.{count}

abbrev pub is_small : ℤ → Bool
is_small z = nat_le (unsigned_abs z) (2 ^ 20)

-- the low end at most the high end, a step of at least 1, each of a magnitude of at most 2^20
abbrev pub is_good : Param → Bool
is_good p = int_le p.low p.high && int_le (pos 1) p.step && is_small p.low && is_small p.high && is_small p.step

-- how many values a good parameter has
unfoldable pub size : Param → ℕ
size p = unsigned_abs (p.high -ℤ p.low) / unsigned_abs p.step + 1

abbrev pub sizes : List Param → List ℕ
sizes ps = map size ps

-- the value at an index
abbrev pub value_at : Param → ℕ → ℤ
value_at p x = p.low +ℤ (p.step *ℤ pos x)

-- what is wrong with the parameters: the first bad one, or else too many points
abbrev pub fault_with : List Param → Option ℕ → Option GridError
fault_with ps (Some at) = Some (BadParam at)
fault_with ps None = if nat_le (count (sizes ps)) 65536 then None else Some TooManyPoints

abbrev pub fault_of : List Param → Option GridError
fault_of ps = fault_with ps (position (λ p. not (is_good p)) ps)

abbrev pub is_within : List Param → Bool
is_within ps = nat_le (length ps) 6 && list_all is_good ps && nat_le (count (sizes ps)) 65536

-- an index that is clamped to a parameter's values
abbrev pub clamped : ℕ → ℤ → ℕ
clamped n z = if int_le (pos 0) z then min (unsigned_abs z) (n - 1) else 0

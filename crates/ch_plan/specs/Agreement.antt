-- The meter of a walk and that of the cost.
use Rattle.std.specs.Prelude.{◌≡◌, ℕ, ◌-◌, min, pos, length, map, take}
use Rattle.ch_cost.specs.Cost.{most_cost}
use Rattle.ch_cost.specs.Meter.{Meter}
use Rattle.ch_plan.specs.declared.meter.Setting.{Setting}
use Rattle.ch_plan.specs.Planned.{Walked, places_of}
use Rattle.ch_timed.specs.Vectors.{woven}

-- the meter of a walk says what the meter of the cost says
pub record Agree (s : Setting) (deep : ℕ) (w : Walked) (m : Meter) : Type 0 where
  pub long : length w.last ≡ deep
  pub slots : w.slots ≡ m.slots
  pub last : m.last ≡ woven (map pos (places_of s w.leaf)) (take (length (places_of s w.leaf) - 1) w.last)
  pub sum : w.sum ≡ min most_cost m.sum

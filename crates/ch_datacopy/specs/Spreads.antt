-- Places of pieces once moves stand around a loop.
use Rattle.std.specs.Prelude.{ℕ, ℤ, pos, ◌+ℤ◌, ◌*ℤ◌, if◌then◌else◌}
use Rattle.std.specs.Ordering.{int_eq}
use Rattle.ch_datacopy.specs.declared.places.Spread.{Spread}

-- the new place, where the loop has this one
abbrev pub spread_by : Spread → ℕ → ℤ → ℤ
spread_by s loop q = q *ℤ pos s.width +ℤ (if int_eq q (pos loop) then pos s.offset else pos 0)

-- The turns of a loop that leave one remainder: what gives their old level values, their ranges and their places.
use Rattle.std.specs.Prelude.{ℕ, ◌+◌, ◌-◌, pos, List, ◌∷◌, ◌++◌, slice_index_or, slice_set}
use Rattle.ch_moved.specs.Room.{origin_range}
use Rattle.std.specs.Int.{int_div_euclid}
use Rattle.ch_affine.specs.Affine.{form}
use Rattle.ch_affine.specs.Form.{Form}
use Rattle.ch_affine.specs.declared.system.Range.{Range}
use Rattle.ch_space.specs.Built.{units, zeros}

-- so many times the one variable that has so many before it and behind it, and a remainder
abbrev pub multiple : ℕ → ℕ → ℕ → ℕ → Form
multiple before after amount remainder = form (zeros before ++ pos amount ∷ zeros after) (pos remainder)

-- the forms of n values, that at place k being so many times the new one, and the remainder
abbrev pub turn_forms : ℕ → ℕ → ℕ → ℕ → List Form
turn_forms n k amount remainder = slice_set (units 0 n) k (multiple k (n - 1 - k) amount remainder)

-- the quotients of the numbers of a range
abbrev pub quotients : ℕ → Range → Range
quotients amount b = record { low = int_div_euclid b.low (pos amount); high = int_div_euclid b.high (pos amount) }

-- the ranges, that at place k being that of the quotients
abbrev pub turn_boxes : ℕ → ℕ → List Range → List Range
turn_boxes k amount boxes = slice_set boxes k (quotients amount (slice_index_or boxes k origin_range))

-- the places, the one at h being greater
abbrev pub offset_places : ℕ → ℕ → List ℕ → List ℕ
offset_places h offset places = slice_set places h (offset + slice_index_or places h 0)

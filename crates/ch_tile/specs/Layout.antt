-- A tiled piece: its rows, ranges and forms. Levels are counted from 0: level j is the new one, and level l of the old ones is tiled.
use Rattle.std.specs.Prelude.{ℕ, suc, ◌-◌, ℤ, pos, negsuc, neg_ℤ, ◌-ℤ◌, List, [], ◌∷◌, ◌++◌, take, drop, slice_index_or}
use Rattle.std.specs.Int.{int_div_euclid}
use Rattle.ch_affine.specs.Affine.{form}
use Rattle.ch_affine.specs.Form.{Form}
use Rattle.ch_affine.specs.declared.system.Range.{Range}
use Rattle.ch_space.specs.Built.{units, zeros}
use Rattle.ch_tile.specs.Tiled.{inserted}

-- the list without the item at place k
abbrev pub removed : {A : Type 0} → ℕ → List A → List A
removed k xs = take k xs ++ drop (suc k) xs

-- n old levels from those with one more
abbrev pub untiled : ℕ → ℕ → List Form
untiled n j = removed j (units 0 (suc n))

-- a coefficient of the new level and one of the tiled level
abbrev pub two_levels : ℕ → ℕ → ℕ → ℤ → ℤ → ℤ → Form
two_levels n j l a b k = form (zeros j ++ a ∷ (zeros (l - j) ++ b ∷ zeros (n - 1 - l))) k

-- the value is none of an earlier tile, and none of a later one
abbrev pub tile_rows : ℕ → ℕ → ℕ → ℕ → List Form
tile_rows n j l t =
    two_levels n j l (neg_ℤ (pos t)) (pos 1) (pos 0)
    ∷ two_levels n j l (pos t) (negsuc 0) (pos t -ℤ pos 1) ∷ []

-- the tiles of a range of values
abbrev pub tiles_of : ℕ → Range → Range
tiles_of t r = record { low = int_div_euclid r.low (pos t); high = int_div_euclid r.high (pos t) }

-- the ranges, that of the tiles of level l before those from j on
abbrev pub tiled_boxes : ℕ → ℕ → ℕ → List Range → Range → List Range
tiled_boxes j l t boxes d = inserted j (tiles_of t (slice_index_or boxes l d)) boxes

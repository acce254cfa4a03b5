-- Pieces of which some are tiled. Levels are counted from 0.
use Rattle.std.specs.Prelude.{◌≡◌, ℕ, suc, ℤ, Bool, true, false, List, [], ◌∷◌, take}
use Rattle.ch_moved.specs.Room.{origin_range}
use Rattle.ch_moved.specs.Reindexed.{IsReindexed}
use Rattle.ch_space.specs.declared.piece.Piece.{Piece}
use Rattle.ch_space.specs.Keeps.{places_of}
use Rattle.ch_tile.specs.Layout.{tile_rows, tiled_boxes, untiled}
use Rattle.ch_tile.specs.Tiled.{inserted}

-- The piece q has one level more than p, level j, whose value is the number of the tile of level l's value.
abbrev pub IsTiled : ℕ → ℕ → ℕ → Piece → Piece → Type 0
IsTiled l t j p q =
    IsReindexed p (untiled p.levels j) (tiled_boxes j l t (take p.levels p.system.boxes) origin_range)
    (tile_rows p.levels j l t) (inserted (suc j) 0 p.places) q

-- tiled where the test holds, and else the same
abbrev pub Becomes : Bool → ℕ → ℕ → ℕ → Piece → Piece → Type 0
Becomes true l t j p q = IsTiled l t j p q
Becomes false l t j p q = q ≡ p

-- each of these pieces became the one of the same number
abbrev pub AllBecome : (List ℤ → Bool) → ℕ → ℕ → ℕ → List Piece → List Piece → Type 0
AllBecome inside l t j [] [] = Unit {0}
AllBecome inside l t j [] (q ∷ qs) = ⊥
AllBecome inside l t j (p ∷ ps) [] = ⊥
AllBecome inside l t j (p ∷ ps) (q ∷ qs) =
    Becomes (inside (places_of p)) l t j p q × AllBecome inside l t j ps qs

-- What the parts of a point say of pieces and accesses: the parts stand from given variables on.
use Rattle.std.specs.Prelude.{◌≡◌, ◌≢◌, ◌<◌, ◌+◌, ◌^◌, neg_ℤ, ◌≤ℤ◌, ◌<ℤ◌, ◌-ℤ◌, ◌*ℤ◌, ℕ, zero, suc, ℤ, pos, List, [], ◌∷◌, ◌++◌, length, map, take, drop, slice_index_or, IsTrue}
use Rattle.ch_affine.specs.Affine.{value}
use Rattle.ch_affine.specs.Rows.{all_hold}
use Rattle.ch_affine.specs.declared.system.Range.{Range}
use Rattle.ch_nest.specs.declared.nest.Access.{Access}
use Rattle.ch_nest.specs.declared.nest.Sub.{Sub}
use Rattle.ch_poly.specs.Boxes.{at}
use Rattle.ch_meeting.specs.declared.cells.Site.{Site}
use Rattle.ch_meeting.specs.Drafts.{part}
use Rattle.ch_meeting.specs.Meeting.{iters_at}
use Rattle.ch_space.specs.declared.piece.Piece.{Piece}

-- the rows of the piece hold at the levels and hidden variables that stand there
abbrev pub HoldsAt : Piece → ℕ → ℕ → List ℤ → Type 0
HoldsAt p levels hidden z =
    IsTrue (all_hold p.system.rows (part levels p.levels z ++ part hidden p.hidden z))

-- the piece's iterators at the levels that stand there
abbrev pub TiedAt : Piece → ℕ → ℕ → List ℤ → Type 0
TiedAt p levels iters z =
    part iters (length p.origin) z ≡ iters_at p (part levels p.levels z)

-- the rows of both pieces hold: the levels of both stand before the hidden variables
abbrev pub PairAt : Piece → Piece → ℕ → List ℤ → Type 0
PairAt p q start z =
    HoldsAt p start (start + p.levels + q.levels) z
    × HoldsAt q (start + p.levels) (start + p.levels + q.levels + p.hidden) z

-- the iterators of both
abbrev pub PairTiedAt : Piece → Piece → ℕ → ℕ → List ℤ → Type 0
PairTiedAt p q start iters z =
    TiedAt p start iters z × TiedAt q (start + p.levels) (iters + length p.origin) z

-- what is left of a subscript's form once its modulus is taken away so often
abbrev pub left : Sub → List ℤ → ℤ → ℤ
left s iters turns = value s.form iters -ℤ pos s.modulus *ℤ turns

-- where there is a modulus, that is the subscript
abbrev pub InModulus : Sub → List ℤ → ℤ → Type 0
InModulus s iters turns =
    (s.modulus ≢ 0) → (pos 0 ≤ℤ left s iters turns) × (left s iters turns <ℤ pos s.modulus)

-- two subscripts are the same number
abbrev pub IsSame : Sub → Sub → List ℤ → List ℤ → ℤ → ℤ → Type 0
IsSame s t i j turns others =
    InModulus s i turns × InModulus t j others × (left s i turns ≡ left t j others)

-- the first n subscripts of two accesses are the same numbers, where their iterators and turns stand at these sites
abbrev pub SameUpTo : ℕ → Access → Access → Site → Site → List ℤ → Type 0
SameUpTo n a b here there z = (k : ℕ) (d e : Sub) → k < n
    → IsSame (slice_index_or a.subs k d) (slice_index_or b.subs k e)
    (drop here.iters z) (drop there.iters z) (at z (here.turns + k)) (at z (there.turns + k))

-- the range of a variable that has no bound of its own
abbrev pub wide : Range
wide = record { low = neg_ℤ (pos (2 ^ 54)); high = pos (2 ^ 54) }

-- the range of one number
abbrev pub only : ℤ → Range
only x = record { low = x; high = x }

-- the range of the turns of a modulus: none where there is no modulus
abbrev pub turn_range : ℕ → Range
turn_range zero = only (pos 0)
turn_range (suc m) = wide

-- so many of those ranges
abbrev pub wides : ℕ → List Range
wides zero = []
wides (suc n) = wide ∷ wides n

-- the ranges of the variables of both pieces
abbrev pub pair_boxes : Piece → Piece → List Range
pair_boxes p q =
    take p.levels p.system.boxes ++ (take q.levels q.system.boxes
    ++ (drop p.levels p.system.boxes ++ drop q.levels q.system.boxes))

-- the ranges of the iterators of two elements, of the turns of two accesses, and of a variable that is 1
abbrev pub cell_boxes : ℕ → ℕ → Access → Access → List Range
cell_boxes n m a b =
    wides n ++ (wides m ++ (map (λ s. turn_range s.modulus) a.subs
    ++ (map (λ s. turn_range s.modulus) b.subs ++ only (pos 1) ∷ [])))

-- What a timed list costs on a machine: 1 for each element, and what the turns of loops that begin and the accesses that
-- miss the cache cost.
use Rattle.std.specs.Prelude.{ℕ, suc, ◌+◌, ◌-◌, ◌*◌, ◌/◌, ◌%◌, ◌^◌, min, ℤ, ◌&&◌, nat_eq, if◌then◌else◌, List, [], ◌∷◌, length, map, slice_index_or, slice_set, replicate}
use Rattle.std.specs.List.{flat_map}
use Rattle.std.specs.Ordering.{int_eq}
use Rattle.ch_nest.specs.CostModel.{CostModel}
use Rattle.ch_timed.specs.Conflict.{cells_of}
use Rattle.ch_timed.specs.Flat.{place_of}
use Rattle.ch_timed.specs.Timed.{step}
use Rattle.ch_timed.specs.Vectors.{values}
use Rattle.ch_timed.specs.declared.element.Element.{Element}

-- a cost stops here
abbrev pub most_cost : ℕ
most_cost = 2 ^ 62

-- turns of loops

-- at how many levels, from the outermost on, both vectors have the same place and loop value
abbrev pub kept : List ℤ → List ℤ → ℕ
kept [] vs = 0
kept (p ∷ []) vs = 0
kept (p ∷ x ∷ us) [] = 0
kept (p ∷ x ∷ us) (q ∷ []) = 0
kept (p ∷ x ∷ us) (q ∷ y ∷ vs) = if int_eq p q && int_eq x y then suc (kept us vs) else 0

-- How many loops begin a turn at the element of this vector: those of all levels but the ones that it shares with the
-- element before it. Before the first element there is no vector, which is written [].
abbrev pub turns_begun : List ℤ → List ℤ → ℕ
turns_begun last vector = length (values vector) - kept last vector

-- the turns that begin at elements of these vectors, one after another
abbrev pub all_turns : List ℤ → List (List ℤ) → ℕ
all_turns last [] = 0
all_turns last (vector ∷ more) = turns_begun last vector + all_turns vector more

-- The cache: each line of cells has one slot in which it can be held. A slot has the number of its line plus 1, and 0
-- while it is empty.

abbrev pub line : CostModel → ℕ → ℕ
line m address = address / m.width

abbrev pub slot : CostModel → ℕ → ℕ
slot m address = line m address % m.lines

abbrev pub empty_slots : CostModel → List ℕ
empty_slots m = replicate m.lines 0

-- 1 where the slot doesn't hold the line of this address
abbrev pub miss : CostModel → List ℕ → ℕ → ℕ
miss m slots address = if nat_eq (slice_index_or slots (slot m address) 0) (line m address + 1) then 0 else 1

-- the slots after an access
abbrev pub held : CostModel → List ℕ → ℕ → List ℕ
held m slots address = slice_set slots (slot m address) (line m address + 1)

-- how many of the accesses to these addresses miss, one after another
abbrev pub misses : CostModel → List ℕ → List ℕ → ℕ
misses m slots [] = 0
misses m slots (address ∷ more) = miss m slots address + misses m (held m slots address) more

-- The addresses that an element accesses, the reads from left to right and then the write: arrays of these extents
-- stand one after another, each in row-major order.
abbrev pub addresses : List (List ℕ) → Element → List ℕ
addresses extents e = map (place_of extents) (cells_of (step e))

-- what the elements cost before the sum is cut off
abbrev pub whole_cost : CostModel → List (List ℕ) → List Element → ℕ
whole_cost m extents list =
    length list + m.turn * all_turns [] (map (λ e. e.vector) list)
    + m.miss * misses m (empty_slots m) (flat_map (addresses extents) list)

-- the cost of a list, executed in its order, over arrays of these extents
abbrev pub cost : CostModel → List (List ℕ) → List Element → ℕ
cost m extents list = min most_cost (whole_cost m extents list)

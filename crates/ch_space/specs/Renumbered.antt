-- Places closed up piece by piece, in order: from the places before, old and closed up, follow the next ones.
use Rattle.std.specs.Prelude.{◌≡◌, ℕ, ◌+◌, ℤ, pos, Bool, true, false, nat_eq, List, [], ◌∷◌, map}
use Rattle.ch_space.specs.declared.piece.Piece.{Piece}
use Rattle.ch_space.specs.Keeps.{places_of}
use Rattle.ch_timed.specs.Closed.{ranks}

abbrev pub zeros : List ℕ → List ℕ
zeros [] = []
zeros (p ∷ ps) = 0 ∷ zeros ps

-- a place that is the one before keeps its number, the first other one has the next number, and behind it all begins anew
abbrev pub next_by : Bool → ℕ → List ℕ → List ℕ → List ℕ
next_by true closed more rest = closed ∷ rest
next_by false closed more rest = (closed + 1) ∷ zeros more

abbrev pub next_places : List ℕ → List ℕ → List ℕ → List ℕ
next_places [] closed places = zeros places
next_places (b ∷ before) [] places = zeros places
next_places (b ∷ before) (c ∷ closed) [] = []
next_places (b ∷ before) (c ∷ closed) (p ∷ places) =
    next_by (nat_eq b p) c places (next_places before closed places)

-- the piece at other places
abbrev pub placed : Piece → List ℕ → Piece
placed p places = record {
  label = p.label;
  body = p.body;
  levels = p.levels;
  hidden = p.hidden;
  system = p.system;
  origin = p.origin;
  places = places;
}

-- the pieces, each at its new places
abbrev pub all_placed : List Piece → List (List ℕ) → List Piece
all_placed [] new = []
all_placed (p ∷ ps) [] = p ∷ ps
all_placed (p ∷ ps) (places ∷ new) = placed p places ∷ all_placed ps new

-- these are the ranks of the places of the pieces, among all
abbrev pub AreRanks : List (List ℤ) → List Piece → List (List ℕ) → Type 0
AreRanks all [] [] = Unit {0}
AreRanks all [] (c ∷ cs) = ⊥
AreRanks all (p ∷ ps) [] = ⊥
AreRanks all (p ∷ ps) (c ∷ cs) = (map pos c ≡ ranks all [] (places_of p)) × AreRanks all ps cs

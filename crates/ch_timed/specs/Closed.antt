-- Closing up: places are renumbered 0, 1, 2 and so on among those that follow the same places.
use Rattle.std.specs.Prelude.{ℕ, ◌+◌, ℤ, pos, ◌&&◌, if◌then◌else◌, nat_lt, List, [], ◌∷◌, ◌++◌, length, map, take, slice_index_or}
use Rattle.std.specs.Ordering.{int_cmp, int_eq}
use Rattle.std.specs.declared.cmp.Ordering.TheVariants.{Less, Equal, Greater}
use Rattle.std.specs.declared.cmp.Ordering.{Ordering}
use Rattle.ch_timed.specs.declared.element.Element.{Element}
use Rattle.ch_timed.specs.Timed.{in_order, pieces}
use Rattle.ch_timed.specs.Vectors.{places, values, woven, same_numbers}

-- the element at another vector
abbrev pub at_vector : Element → List ℤ → Element
at_vector e v = record { identity = e.identity; vector = v; body = e.body }

-- the number, where it is not there yet
abbrev pub put_number : ℤ → List ℤ → List ℤ
put_number x [] = x ∷ []
put_number x (y ∷ ys) = if int_eq x y then y ∷ ys else y ∷ put_number x ys

-- the numbers that follow these places
abbrev pub follows : List ℤ → List (List ℤ) → List ℤ
follows front [] = []
follows front (ps ∷ pss) =
    if same_numbers front (take (length front) ps) && nat_lt (length front) (length ps)
    then put_number (slice_index_or ps (length front) (pos 0)) (follows front pss)
    else follows front pss

abbrev pub count_less : Ordering → ℕ → ℕ
count_less Less n = n + 1
count_less Equal n = n
count_less Greater n = n

-- how many of them are less
abbrev pub below : ℤ → List ℤ → ℕ
below x [] = 0
below x (y ∷ ys) = count_less (int_cmp y x) (below x ys)

-- the places from k on, each by its rank among those that follow the same places before it
abbrev pub ranks : List (List ℤ) → List ℤ → List ℤ → List ℤ
ranks all front [] = []
ranks all front (p ∷ ps) = pos (below p (follows front all)) ∷ ranks all (front ++ p ∷ []) ps

-- the vector of an element of the list, once the list is closed up
abbrev pub closed_vector : List Element → Element → List ℤ
closed_vector list e = woven (ranks (pieces list) [] (places e.vector)) (values e.vector)

-- the list with its places closed up
abbrev pub closed_up : List Element → List Element
closed_up list = in_order (map (λ e. at_vector e (closed_vector list e)) list)

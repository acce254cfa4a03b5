-- What a command does to a timed list.
use Rattle.std.specs.Prelude.{ℤ, Bool, if◌then◌else◌, List, map}
use Rattle.ch_timed.specs.declared.element.Element.{Element}
use Rattle.ch_timed.specs.Closed.{at_vector, closed_up}
use Rattle.ch_timed.specs.Timed.{in_order}
use Rattle.ch_timed.specs.Vectors.{places, values, woven}

-- The elements get other vectors; the list is put in the order of these, and its places are closed up.
abbrev pub moved : (Element → Element) → List Element → List Element
moved change list = closed_up (in_order (map change list))

-- other loop values where the test holds of the places
abbrev pub revalued : (List ℤ → Bool) → (List ℤ → List ℤ) → Element → Element
revalued inside f e =
    if inside (places e.vector) then at_vector e (woven (places e.vector) (f (values e.vector))) else e

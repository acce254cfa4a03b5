-- The next element of a list.
use Rattle.std.specs.Prelude.{ℤ, Bool, true, false, Option, Some, None, List, [], ◌∷◌}
use Rattle.ch_timed.specs.declared.element.Element.{Element}
use Rattle.ch_timed.specs.Vectors.{comes_before}

abbrev pub first_if : Bool → Element → Option Element → Option Element
first_if true e more = Some e
first_if false e more = more

-- the first element whose vector comes after this one
abbrev pub next_after : List ℤ → List Element → Option Element
next_after v [] = None
next_after v (e ∷ es) = first_if (comes_before v e.vector) e (next_after v es)

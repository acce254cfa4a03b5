-- What is left of a list when it is walked from vector to vector.
use Rattle.std.specs.Prelude.{ℤ, Bool, true, false, List, [], ◌∷◌}
use Rattle.ch_timed.specs.declared.element.Element.{Element}
use Rattle.ch_timed.specs.Vectors.{comes_before}

abbrev pub all_if : Bool → List Element → List Element → List Element
all_if true all rest = all
all_if false all rest = rest

-- the elements from the first one on that comes after the vector
abbrev pub rest : List ℤ → List Element → List Element
rest v [] = []
rest v (e ∷ es) = all_if (comes_before v e.vector) (e ∷ es) (rest v es)

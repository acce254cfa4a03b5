-- The accesses of an array in a body. Two accesses are one where their forms are, whatever cells they name.
use Rattle.std.specs.Prelude.{ℕ, Bool, not, nat_eq, List, [], ◌∷◌}
use Rattle.std.specs.List.{filter}
use Rattle.ch_nest.specs.declared.nest.Access.{Access}
use Rattle.ch_nest.specs.declared.nest.Body.{Body}
use Rattle.ch_order.specs.Accesses.{same_access}
use Rattle.ch_timed.specs.Conflict.{reads}

-- each member once, where it stands first
abbrev pub different : {X : Type 0} → (X → X → Bool) → List X → List X
different same [] = []
different same (x ∷ more) = x ∷ filter (λ y. not (same x y)) (different same more)

abbrev pub names : ℕ → Access → Bool
names array a = nat_eq a.array array

-- the different accesses of the array that a body reads, from left to right
abbrev pub read_accesses : ℕ → Body → List Access
read_accesses array b = different same_access (filter (names array) (reads b.right))

-- the access of the array that it writes, if it does
abbrev pub written_accesses : ℕ → Body → List Access
written_accesses array b = filter (names array) (b.write ∷ [])

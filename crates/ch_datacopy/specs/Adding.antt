-- The different members of a list, found one after another.
use Rattle.std.specs.Prelude.{◌++◌, if◌then◌else◌, List, [], ◌∷◌}
use Rattle.std.specs.List.{list_any}
use Rattle.ch_order.specs.Accesses.{same_access}
use Rattle.ch_nest.specs.declared.nest.Access.{Access}

-- the access behind these, where it isn't one of them
abbrev pub put_new : List Access → Access → List Access
put_new kept a = if list_any (λ b. same_access b a) kept then kept else kept ++ a ∷ []

abbrev pub added : List Access → List Access → List Access
added kept [] = kept
added kept (a ∷ more) = added (put_new kept a) more

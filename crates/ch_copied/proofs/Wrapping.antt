-- The cells of a buffer.
use Rattle.std.proofs.Common.{ℕ, ℤ, List, [], ◌∷◌}
use Rattle.ch_nest.specs.Run.{modulo}

-- the subscripts modulo the extents
abbrev pub wrap : List ℕ → List ℤ → List ℤ
wrap es [] = []
wrap [] (c ∷ cs) = []
wrap (e ∷ es) (c ∷ cs) = modulo e c ∷ wrap es cs

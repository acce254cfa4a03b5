-- The lines of a list, each by its number and what stands there.
use Rattle.std.specs.Prelude.{ℕ, suc, List, [], ◌∷◌, ◌++◌}

-- the lines of the elements, counted on from k
abbrev pub numbered : {A : Type 0} → (ℕ → A → List ℕ) → ℕ → List A → List ℕ
numbered line k [] = []
numbered line k (x ∷ xs) = line k x ++ numbered line (suc k) xs

-- The texts of the elements of a list, one after the other.
use Rattle.std.specs.Prelude.{ℕ, List, [], ◌∷◌, ◌++◌}
use Rattle.std.specs.List.{flat_map}

-- each text after the separator
abbrev pub behind : {A : Type 0} → List ℕ → (A → List ℕ) → A → List ℕ
behind separator text x = separator ++ text x

-- the texts with the separator between them
abbrev pub separated : {A : Type 0} → List ℕ → (A → List ℕ) → List A → List ℕ
separated separator text [] = []
separated separator text (x ∷ xs) = text x ++ flat_map (behind separator text) xs

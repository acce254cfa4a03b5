-- The value of an affine form at a point, and how large the parts of a form are.
use Rattle.std.specs.Prelude.{ℕ, ℤ, pos, ◌+ℤ◌, ◌*ℤ◌, ◌≤◌, unsigned_abs, List, [], ◌∷◌, length}
use Rattle.std.specs.List.{All}
use Rattle.ch_affine.specs.Form.{Form}
use Rattle.ch_affine.specs.Limits.{most_variables, largest_coefficient}

abbrev pub IsAtMost : ℕ → ℤ → Type 0
IsAtMost most z = unsigned_abs z ≤ most

-- at most 4,096 coefficients, and all numbers of magnitude at most 2^60
pub record IsSmall (f : Form) : Type 0 where
  pub few : length f.coefs ≤ most_variables
  pub coefs : All (IsAtMost largest_coefficient) f.coefs
  pub constant : IsAtMost largest_coefficient f.constant

abbrev pub form : List ℤ → ℤ → Form
form coefs constant = record { coefs = coefs; constant = constant }

-- the sum of the products, as far as both lists go
abbrev pub dot : List ℤ → List ℤ → ℤ
dot [] xs = pos 0
dot (c ∷ cs) [] = pos 0
dot (c ∷ cs) (x ∷ xs) = (c *ℤ x) +ℤ dot cs xs

-- the constant, and each coefficient times its variable
abbrev pub value : Form → List ℤ → ℤ
value f point = f.constant +ℤ dot f.coefs point

-- A combination of two forms, and the first of its numbers that passes a limit.
use Rattle.std.specs.Prelude.{ℤ, pos, ◌+ℤ◌, ◌*ℤ◌, unsigned_abs, Bool, int_lt, List, [], ◌∷◌, ◌++◌, Option}
use Rattle.std.specs.List.{find}
use Rattle.ch_affine.specs.Form.{Form}

-- a times the one and b times the other, coefficient by coefficient
abbrev pub combined_coefs : ℤ → List ℤ → ℤ → List ℤ → List ℤ
combined_coefs a [] b ys = []
combined_coefs a (x ∷ xs) b [] = []
combined_coefs a (x ∷ xs) b (y ∷ ys) = (a *ℤ x +ℤ b *ℤ y) ∷ combined_coefs a xs b ys

-- a * x + b * y
abbrev pub combined : ℤ → Form → ℤ → Form → Form
combined a x b y = record { coefs = combined_coefs a x.coefs b y.coefs; constant = a *ℤ x.constant +ℤ b *ℤ y.constant }

abbrev pub is_wide : ℤ → ℤ → Bool
is_wide limit z = int_lt limit (pos (unsigned_abs z))

-- the first number whose magnitude is above the limit, the coefficients before the constant
abbrev pub first_wide : ℤ → Form → Option ℤ
first_wide limit f = find (is_wide limit) (f.coefs ++ f.constant ∷ [])

-- The condition of an `if`. Its row passes the limit of affine text where it is the difference of two large sides, so
-- it is printed as two sides again: on the left the iterators, on the right the constant, and what passes the limit on
-- the other side.
use Rattle.std.specs.Prelude.{ℕ, ℤ, pos, neg_ℤ, ◌-ℤ◌, int_lt, Bool, true, false, List, [], ◌∷◌, ◌++◌, map}
use Rattle.std.specs.Int.{int_max, int_min}
use Rattle.ch_affine.specs.Form.{Form}
use Rattle.ch_lex.specs.declared.token.Sign.{Sign}
use Rattle.ch_lex.specs.declared.token.Sign.TheVariants as signs
use Rattle.ch_nest.specs.Limits.{most_affine, most_number}
use Rattle.ch_nestprint.specs.Ends.{form_symbols, raised_if}
use Rattle.ch_nestprint.specs.declared.symbol.Symbol.{Symbol}
use Rattle.ch_nestprint.specs.declared.symbol.Symbol.TheVariants.{Mark}

-- the number within the limit that is nearest to z
abbrev pub near : ℤ → ℤ
near z = int_max (neg_ℤ (pos most_affine)) (int_min (pos most_affine) z)

-- what z has beyond it
abbrev pub far : ℤ → ℤ
far z = z -ℤ near z

-- the same on the other side of a comparison
abbrev pub moved : ℤ → ℤ
moved z = near z -ℤ z

-- Whether the row is printed with `>`, and 1 added to its constant: where the constant is less than that of each
-- difference of two sides.
abbrev pub is_low : Form → Bool
is_low row = int_lt row.constant (neg_ℤ (pos most_number))

abbrev pub comparison : Bool → Sign
comparison true = signs.More
comparison false = signs.AtLeast

-- the sides of a row of these coefficients and this constant

abbrev pub left_symbols : ℕ → List ℤ → ℤ → List Symbol
left_symbols letters coefs constant = form_symbols letters (map near coefs) (far constant)

abbrev pub right_symbols : ℕ → List ℤ → ℤ → List Symbol
right_symbols letters coefs constant = form_symbols letters (map moved coefs) (neg_ℤ (near constant))

abbrev pub sides_symbols : ℕ → Bool → List ℤ → ℤ → List Symbol
sides_symbols letters low coefs constant =
    left_symbols letters coefs constant ++ (Mark (comparison low) ∷ right_symbols letters coefs constant)

-- what stands between `if` and the body
abbrev pub condition_symbols : ℕ → Form → List Symbol
condition_symbols letters row =
    (Mark signs.LeftParen ∷ sides_symbols letters (is_low row) row.coefs (raised_if (is_low row) row.constant))
    ++ Mark signs.RightParen ∷ []

-- An affine form for people: `2*x1 - x3 + 4`. A coefficient of 0 is left out, one of 1 isn't written, and the constant is
-- written where it isn't 0 or nothing else is.
use Rattle.std.specs.Prelude.{ℕ, zero, suc, ℤ, pos, negsuc, Bool, true, false, cond, ◌&&◌, nat_eq, unsigned_abs, List, [], ◌∷◌, ◌++◌, length, codes}
use Rattle.ch_affine.specs.Form.{Form}
use Rattle.ch_print.specs.Numbers.{integer_text, number_text}

-- what a variable's name begins with: `x` for the value of a loop around, `i` for an original iterator
abbrev pub looped : ℕ
looped = 120

abbrev pub original : ℕ
original = 105

-- variables are counted from 1
abbrev pub variable_text : ℕ → ℕ → List ℕ
variable_text letter k = letter ∷ number_text k

abbrev pub is_zero : ℤ → Bool
is_zero (pos zero) = true
is_zero (pos (suc n)) = false
is_zero (negsuc n) = false

-- the sign before a number: of the first one only a minus is written
abbrev pub sign_text : Bool → ℤ → List ℕ
sign_text true (pos n) = []
sign_text true (negsuc n) = codes "-"
sign_text false (pos n) = codes " + "
sign_text false (negsuc n) = codes " - "

-- a coefficient's size before its variable
abbrev pub times_text : ℕ → List ℕ
times_text zero = number_text zero ++ codes "*"
times_text (suc zero) = []
times_text (suc (suc n)) = number_text (suc (suc n)) ++ codes "*"

-- a coefficient with the variable of this number
abbrev pub term_text : ℕ → Bool → ℕ → ℤ → List ℕ
term_text letter first k c = cond (is_zero c) [] (sign_text first c ++ times_text (unsigned_abs c) ++ variable_text letter k)

abbrev pub constant_text : Bool → ℤ → List ℕ
constant_text true z = integer_text z
constant_text false z = cond (is_zero z) [] (sign_text false z ++ number_text (unsigned_abs z))

-- The coefficients of the variables from the k-th on, and the constant. Nothing is written before the first one that isn't 0.
abbrev pub sum_text : ℕ → Bool → ℕ → List ℤ → ℤ → List ℕ
sum_text letter first k [] constant = constant_text first constant
sum_text letter first k (c ∷ cs) constant = term_text letter first k c ++ sum_text letter (is_zero c && first) (suc k) cs constant

-- how many coefficients there are, where it isn't one for each variable
abbrev pub count_text : ℕ → ℕ → List ℕ
count_text variables count = cond (nat_eq count variables) [] (codes "of " ++ number_text count ++ codes ": ")

-- a form of this many variables
unfoldable pub form_text : ℕ → ℕ → Form → List ℕ
form_text letter variables f = count_text variables (length f.coefs) ++ sum_text letter true 1 f.coefs f.constant

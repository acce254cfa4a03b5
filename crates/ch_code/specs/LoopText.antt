-- The heads of loops and guards for people: `for x2 = max(0, ceil((x1 - 1) / 2)) to 3` and
-- `if 0 <= x1 <= 3, some x2: 0 <= x2 <= 4 and x1 - 2*x2 >= 0`.
use Rattle.std.specs.Prelude.{ℕ, zero, suc, cond, nat_eq, nat_lt, List, [], ◌∷◌, ◌++◌, length, codes}
use Rattle.std.specs.List.{flat_map}
use Rattle.ch_affine.specs.Form.{Form}
use Rattle.ch_affine.specs.Rows.{Rows}
use Rattle.ch_affine.specs.declared.system.Range.{Range}
use Rattle.ch_print.specs.Lists.{separated}
use Rattle.ch_print.specs.Numbers.{integer_text, number_text}
use Rattle.ch_code.specs.FormText.{form_text, looped, variable_text}
use Rattle.ch_code.specs.declared.code.Bound.{Bound}

-- a form divided and rounded by the function of this name; a divisor of 1 isn't written
abbrev pub divided_text : List ℕ → ℕ → List ℕ → List ℕ
divided_text rounding zero form = rounding ++ codes "((" ++ form ++ codes ") / " ++ number_text zero ++ codes ")"
divided_text rounding (suc zero) form = form
divided_text rounding (suc (suc n)) form = rounding ++ codes "((" ++ form ++ codes ") / " ++ number_text (suc (suc n)) ++ codes ")"

-- a bound inside this many loops
unfoldable pub bound_text : List ℕ → ℕ → Bound → List ℕ
bound_text rounding around b = divided_text rounding b.divisor (form_text looped around b.form)

abbrev pub many_text : List ℕ → List ℕ → ℕ → List Bound → List ℕ
many_text chosen rounding around bounds = chosen ++ codes "(" ++ separated (codes ", ") (bound_text rounding around) bounds ++ codes ")"

-- the greatest or the least of bounds; one alone is just written
abbrev pub end_text : List ℕ → List ℕ → ℕ → List Bound → List ℕ
end_text chosen rounding around [] = many_text chosen rounding around []
end_text chosen rounding around (b ∷ []) = bound_text rounding around b
end_text chosen rounding around (b ∷ c ∷ bounds) = many_text chosen rounding around (b ∷ c ∷ bounds)

unfoldable pub low_text : ℕ → List Bound → List ℕ
low_text = end_text (codes "max") (codes "ceil")

unfoldable pub high_text : ℕ → List Bound → List ℕ
high_text = end_text (codes "min") (codes "floor")

unfoldable pub for_text : ℕ → ℕ → List Bound → List Bound → List ℕ
for_text around level lows highs = codes "for " ++ variable_text looped level ++ codes " = " ++ low_text around lows ++ codes " to " ++ high_text around highs

-- a variable that is the value of no loop around is to be found
abbrev pub some_text : ℕ → ℕ → List ℕ
some_text around k = cond (nat_lt around k) (codes "some " ++ variable_text looped k ++ codes ": ") []

-- the range of the k-th variable
unfoldable pub range_text : ℕ → ℕ → Range → List ℕ
range_text around k r = some_text around k ++ integer_text r.low ++ codes " <= " ++ variable_text looped k ++ codes " <= " ++ integer_text r.high

abbrev pub more_ranges_text : ℕ → ℕ → List Range → List ℕ
more_ranges_text around k [] = []
more_ranges_text around k (r ∷ rs) = codes ", " ++ range_text around k r ++ more_ranges_text around (suc k) rs

abbrev pub ranges_text : ℕ → List Range → List ℕ
ranges_text around [] = codes "true"
ranges_text around (r ∷ rs) = range_text around 1 r ++ more_ranges_text around 2 rs

-- how many variables there are, where it isn't one for each range
abbrev pub variables_text : ℕ → ℕ → List ℕ
variables_text ranges variables = cond (nat_eq variables ranges) [] (codes " of " ++ number_text variables)

abbrev pub row_text : ℕ → Form → List ℕ
row_text variables f = codes " and " ++ form_text looped variables f ++ codes " >= 0"

unfoldable pub if_text : ℕ → Rows → List ℕ
if_text around s = codes "if " ++ ranges_text around s.boxes ++ variables_text (length s.boxes) s.vars ++ flat_map (row_text s.vars) s.rows

-- Whole numbers in decimal, as digits that begin with no 0 but in 0 itself.
use Rattle.std.specs.Prelude.{ℕ, zero, suc, ◌+◌, ℤ, pos, negsuc, List, ◌++◌, map, codes}
use Rattle.std.specs.Int.Digits.{digits_of}

-- a digit of decimal is the code of "0" and as many more
abbrev pub digit_text : ℕ → ℕ
digit_text d = 48 + d

unfoldable pub number_text : ℕ → List ℕ
number_text zero = codes "0"
number_text (suc n) = map digit_text (digits_of 10 (suc n))

-- a number below 0 has a minus sign before it
unfoldable pub integer_text : ℤ → List ℕ
integer_text (pos n) = number_text n
integer_text (negsuc n) = codes "-" ++ number_text (suc n)

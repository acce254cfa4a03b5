-- What the printing of integers writes is the text of the number.
use Rattle.std.proofs.Common.{◌≡◌, refl, sym, ap, ◌∙◌, ℕ, zero, suc, ◌+◌, ◌/◌, ◌%◌, ◌^◌, ◌<◌, ◌≤◌, ℤ, pos, negsuc, [], ◌∷◌, ◌++◌, map, arith}
use lib.Signed.{mag}
use Rattle.std.specs.Fmt.{decimal, signed_decimal}
use Rattle.std.specs.Int.Digits.{digits_of}
use Rattle.std.proofs.lemmas.Fmt.{decimal_by_steps_wide, decimal-digits_of, decimal_digit}
use Rattle.std.proofs.lemmas.Int.Digits.{digits_of_step}
use Rattle.std.proofs.lemmas.List.{map-append}
use Rattle.ch_print.specs.Numbers.{digit_text, integer_text, number_text}

positive : (n : ℕ) → 0 < n → number_text n ≡ map digit_text (digits_of 10 n)
unfolding number_text
positive zero h = absurd (omega arith)
positive (suc n) h = refl

last_digit : (n : ℕ) → 10 ≤ n → number_text n ≡ number_text (n / 10) ++ (48 + n % 10) ∷ []
last_digit n h =
    positive n (omega arith)
    ∙ ap (map digit_text) (digits_of_step 10 n (omega arith) (omega arith))
    ∙ map-append digit_text (digits_of 10 (n / 10)) (n % 10 ∷ [])
    ∙ ap (λ ds. ds ++ (48 + n % 10) ∷ []) (sym (positive (n / 10) (omega arith)))

pub decimal_small : (n : ℕ) → n < 2 ^ 64 → decimal n ≡ number_text n
unfolding number_text
decimal_small zero h = decimal_digit 0 (omega arith)
decimal_small (suc n) h = decimal-digits_of (suc n) (omega arith) h

one_digit : (n : ℕ) → n < 10 → (48 + n) ∷ [] ≡ number_text n
one_digit n h = sym (decimal_digit n h) ∙ decimal_small n (omega arith)

pub decimal_wide : (n : ℕ) → n < 10 ^ 64 → decimal n ≡ number_text n
decimal_wide = decimal_by_steps_wide (λ n ds. ds ≡ number_text n) one_digit
    (λ n ds h is. ap (λ d. d ++ (48 + n % 10) ∷ []) is ∙ sym (last_digit n h))

pub signed_wide : (z : ℤ) → mag z < 10 ^ 63 → signed_decimal z ≡ integer_text z
unfolding integer_text
signed_wide (pos n) h = decimal_wide n (omega arith)
signed_wide (negsuc n) h = ap (λ ds. 45 ∷ ds) (decimal_wide (suc n) (omega arith))

-- The texts of numbers are read as those numbers.
use Rattle.std.proofs.Common.{◌≡◌, refl, sym, ap, ap₂, ◌∙◌, inl, inr, ℕ, zero, suc, ◌+◌, ◌-◌, ◌*◌, ◌<◌, ◌≤◌, ℤ, pos, neg_ℤ, Bool, true, false, ◌&&◌, if◌then◌else◌, nat_le, List, [], ◌∷◌, ◌++◌, get_or, length, map, replicate, arith}
use Rattle.std.specs.Prelude.{Option, Some, None, ◌==◌, option_map, option_and_then}
use Rattle.std.specs.List.{All, list_all}
use Rattle.std.specs.Int.Digits.{digits_of, number_from_digits, AllBelowBase}
use Rattle.std.proofs.lemmas.Bool.{le-leb, leb-true, eqb-true, ne_eqb, cases_eq, cases_Bool, and_from, and_parts}
use Rattle.std.proofs.lemmas.Int.Digits.{number_digits_of, all_below_base_digits_of, first_digits_of}
use Rattle.std.proofs.lemmas.List.{length-append, length-map, length-replicate}
use Rattle.std.proofs.lemmas.List.Elements.{All-nil, All-cons, All-weaker}
use Rattle.std.proofs.lemmas.List.Splits.{slice_split_none, slice_split_at}
use Rattle.std.proofs.lemmas.List.Sums.{AllPass-from_list_all}
use Rattle.clap.specs.Words.{Text}
use Rattle.ch_lex.specs.Bytes.{is_digit, number_of}
use Rattle.ch_words.proofs.Digits.{natural_from}
use Rattle.ch_words.specs.Numbers.{natural_of, whole_of, wholes_of, below_zero, largest_value, is_comma, each_read}

-- the decimal digits of a number, with so many zeros before them; those of 0 are the zeros alone
abbrev pub decimal_text : ℕ → ℕ → Text
decimal_text zeros n = replicate zeros 48 ++ map (λ d. 48 + d) (digits_of 10 n)

all_digits : (ds : List ℕ) → AllBelowBase 10 ds → list_all is_digit (map (λ d. 48 + d) ds) ≡ true
all_digits [] h = refl
all_digits (d ∷ ds) h =
    and_from (is_digit (48 + d)) (list_all is_digit (map (λ d. 48 + d) ds))
    (and_from (nat_le 48 (48 + d)) (nat_le (48 + d) 57) (le-leb 48 (48 + d) (omega arith)) (le-leb (48 + d) 57 (omega (arith, h.0))))
    (all_digits ds h.1)

zeros_are_digits : (zeros : ℕ) (text : Text) → list_all is_digit text ≡ true → list_all is_digit (replicate zeros 48 ++ text) ≡ true
zeros_are_digits zero text h = h
zeros_are_digits (suc zeros) text h = zeros_are_digits zeros text h

zeros_count_nothing : (zeros : ℕ) (text : Text) → number_of (replicate zeros 48 ++ text) ≡ number_of text
zeros_count_nothing zero text = refl
zeros_count_nothing (suc zeros) text = zeros_count_nothing zeros text

values : (ds : List ℕ) → map (λ d. d - 48) (map (λ d. 48 + d) ds) ≡ ds
values [] = refl
values (d ∷ ds) = let e : 48 + d - 48 ≡ d = omega arith in ap₂ (λ x xs. x ∷ xs) e (values ds)

value : (zeros n : ℕ) → number_of (decimal_text zeros n) ≡ n
value zeros n =
    zeros_count_nothing zeros (map (λ d. 48 + d) (digits_of 10 n))
    ∙ ap (number_from_digits 10) (values (digits_of 10 n))
    ∙ number_digits_of 10 n (omega arith)

some_first : (xs : List ℕ) → 0 < get_or xs 0 0 → 0 < length xs
some_first [] h = absurd (omega arith)
some_first (x ∷ xs) h = omega arith

has_digits : (n : ℕ) → 0 < n → 0 < length (digits_of 10 n)
has_digits n p = some_first (digits_of 10 n) (first_digits_of 10 n (omega arith) p)

length_of : (zeros n : ℕ) → length (decimal_text zeros n) ≡ zeros + length (digits_of 10 n)
length_of zeros n =
    length-append (replicate zeros 48) (map (λ d. 48 + d) (digits_of 10 n))
    ∙ ap₂ (λ x y. x + y) (length-replicate zeros 48) (length-map (digits_of 10 n) (λ d. 48 + d))

has_bytes : (zeros n : ℕ) → 0 < zeros + n → 0 < length (decimal_text zeros n)
has_bytes zeros n p =
    let len = length_of zeros n in
    elim (cases_eq n 0) [
      | inl e ↦ omega (arith, len)
      | inr ne ↦ let some = has_digits n (omega arith) in omega (arith, len, some)
    ]

-- a number of at most `most`, in its decimal digits with any zeros before them
pub natural_written : (most zeros n : ℕ) → n ≤ most → 0 < zeros + n → natural_of most (decimal_text zeros n) ≡ Some n
natural_written most zeros n l p =
    let within : number_of (decimal_text zeros n) ≤ most = omega (arith, value zeros n) in
    natural_from most (decimal_text zeros n) (has_bytes zeros n p)
    (zeros_are_digits zeros (map (λ d. 48 + d) (digits_of 10 n)) (all_digits (digits_of 10 n) (all_below_base_digits_of 10 n (omega arith))))
    within
    ∙ ap (λ m. Some m) (value zeros n)

pub negative_written : (zeros n : ℕ) → 0 < n → n ≤ largest_value → whole_of (45 ∷ decimal_text zeros n) ≡ Some (neg_ℤ (pos n))
negative_written zeros n p l =
    ap (option_and_then below_zero) (natural_written largest_value zeros n l (omega arith))
    ∙ ap (λ t. if t then None else Some (neg_ℤ (pos n))) (ne_eqb n 0 (λ e. omega arith))

starts_with_minus : (bs : Text) (b : ℕ) → b ≡ 45 → natural_of largest_value (b ∷ bs) ≡ None
starts_with_minus bs b e = ap (λ x. natural_of largest_value (x ∷ bs)) e

whole_from : (text : Text) (n : ℕ) → natural_of largest_value text ≡ Some n → whole_of text ≡ Some (pos n)
whole_from [] n h = let bad : None ≡ Some n = h in cc
whole_from (b ∷ bs) n h =
    elim (cases_eq b 45) [
      | inl e ↦ let bad : None ≡ Some n = sym (starts_with_minus bs b e) ∙ h in cc
      | inr ne ↦ ap (λ t. if t then option_and_then below_zero (natural_of largest_value bs) else option_map pos (natural_of largest_value (b ∷ bs))) (ne_eqb b 45 ne)
          ∙ ap (option_map pos) h
    ]

pub positive_written : (zeros n : ℕ) → n ≤ largest_value → 0 < zeros + n → whole_of (decimal_text zeros n) ≡ Some (pos n)
positive_written zeros n l p = whole_from (decimal_text zeros n) n (natural_written largest_value zeros n l p)

no_comma : (b : ℕ) → is_digit b ≡ true → is_comma b ≡ false
no_comma b h = let low = leb-true 48 b (and_parts (nat_le 48 b) (nat_le b 57) h).0 in ne_eqb b 44 (λ e. omega (arith, low))

digits_alone : (most : ℕ) (text : Text) (n : ℕ) → natural_of most text ≡ Some n → list_all is_digit text ≡ true
digits_alone most [] n h = refl
digits_alone most (b ∷ bs) n h =
    elim (cases_Bool (list_all is_digit (b ∷ bs))) [
      | inl t ↦ t
      | inr f ↦ let none : natural_of most (b ∷ bs) ≡ None = ap (λ t. if t && nat_le (number_of (b ∷ bs)) most then Some (number_of (b ∷ bs)) else None) f in
          let bad : None ≡ Some n = sym none ∙ h in
          cc
    ]

no_commas : (most : ℕ) (text : Text) (n : ℕ) → natural_of most text ≡ Some n → All (λ b. is_comma b ≡ false) text
no_commas most text n h =
    All-weaker (λ b. is_digit b ≡ true) (λ b. is_comma b ≡ false) no_comma text (AllPass-from_list_all is_digit text (digits_alone most text n h))

was_some : {A B : Type 0} (f : A → Option B) (o : Option A) (z : B) → option_and_then f o ≡ Some z → (x : A) × (o ≡ Some x)
was_some f None z h = let bad : None ≡ Some z = h in cc
was_some f (Some x) z h = (x, refl)

was_mapped : {A B : Type 0} (f : A → B) (o : Option A) (z : B) → option_map f o ≡ Some z → (x : A) × (o ≡ Some x)
was_mapped f None z h = let bad : None ≡ Some z = h in cc
was_mapped f (Some x) z h = (x, refl)

whole_without_commas : (text : Text) (z : ℤ) → whole_of text ≡ Some z → All (λ b. is_comma b ≡ false) text
whole_without_commas [] z h = All-nil (λ b. is_comma b ≡ false)
whole_without_commas (b ∷ bs) z h =
    elim (cases_Bool (b == 45)) [
      | inl t ↦
          let n = was_some below_zero (natural_of largest_value bs) z (sym (ap (λ t. if t then option_and_then below_zero (natural_of largest_value bs) else option_map pos (natural_of largest_value (b ∷ bs))) t) ∙ h) in
          All-cons (λ b. is_comma b ≡ false) b bs (ne_eqb b 44 (λ e. omega (arith, eqb-true b 45 t))) (no_commas largest_value bs n.0 n.1)
      | inr f ↦
          let n = was_mapped pos (natural_of largest_value (b ∷ bs)) z (sym (ap (λ t. if t then option_and_then below_zero (natural_of largest_value bs) else option_map pos (natural_of largest_value (b ∷ bs))) f) ∙ h) in
          no_commas largest_value (b ∷ bs) n.0 n.1
    ]

-- a list of one number, and one with another number before it
pub one_written : (text : Text) (z : ℤ) → whole_of text ≡ Some z → wholes_of text ≡ Some (z ∷ [])
one_written text z h =
    ap (each_read whole_of) (slice_split_none is_comma text (whole_without_commas text z h))
    ∙ ap (option_and_then (λ y. Some (y ∷ []))) h

pub list_written : (text more : Text) (z : ℤ) (zs : List ℤ) → whole_of text ≡ Some z → wholes_of more ≡ Some zs → wholes_of (text ++ 44 ∷ more) ≡ Some (z ∷ zs)
list_written text more z zs h k =
    ap (each_read whole_of) (slice_split_at is_comma text 44 more (whole_without_commas text z h) refl)
    ∙ ap (option_and_then (λ y. option_map (λ ys. y ∷ ys) (wholes_of more))) h
    ∙ ap (option_map (λ ys. z ∷ ys)) k

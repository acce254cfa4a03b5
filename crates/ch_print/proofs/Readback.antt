-- A text that begins with a number's text tells the number and what stands behind it.
use Rattle.std.proofs.Common.{◌≡◌, refl, sym, ap, ◌∙◌, ℕ, zero, suc, ◌+◌, ◌<◌, Bool, true, false, not, nat_lt, nat_le, ◌&&◌, ℤ, pos, negsuc, List, [], ◌∷◌, ◌++◌, map, get_or, arith}
use Rattle.std.specs.List.{list_all}
use Rattle.std.specs.Int.Digits.{digits_of, AllBelowBase}
use Rattle.std.proofs.lemmas.Int.Digits.{same_from_digits_of, all_below_base_digits_of, first_digits_of}
use Rattle.std.proofs.lemmas.Bool.{and_parts, and_from, both_ways}
use Rattle.std.proofs.lemmas.Bool.Decides.{nat_tests}
use Rattle.ch_print.specs.Numbers.{digit_text, integer_text, number_text}

-- a byte of this kind doesn't stand first
abbrev pub stops : (ℕ → Bool) → List ℕ → Bool
stops kind [] = true
stops kind (b ∷ bs) = not (kind b)

clash : (b : Bool) → b ≡ true → not b ≡ true → ⊥
clash true e f = cc
clash false e f = cc

-- two runs of bytes of one kind, with what doesn't go on with them
pub same_run : (kind : ℕ → Bool) (a b r q : List ℕ) → list_all kind a ≡ true → list_all kind b ≡ true → stops kind r ≡ true → stops kind q ≡ true
    → a ++ r ≡ b ++ q → (a ≡ b) × (r ≡ q)
same_run kind [] [] r q ha hb hr hq e = (refl, e)
same_run kind (x ∷ a) (y ∷ b) r q ha hb hr hq e =
    let xy : x ≡ y = cc in
    let e2 : a ++ r ≡ b ++ q = cc in
    let s = same_run kind a b r q ((and_parts _ _ ha).1) ((and_parts _ _ hb).1) hr hq e2 in
    (cc (xy, s.0), s.1)
same_run kind [] (y ∷ b) [] q ha hb hr hq e = absurd (cc)
same_run kind [] (y ∷ b) (z ∷ r) q ha hb hr hq e =
    let zy : z ≡ y = cc in
    absurd (clash (kind y) ((and_parts _ _ hb).0) (ap (λ k. not (kind k)) (sym zy) ∙ hr))
same_run kind (x ∷ a) [] r [] ha hb hr hq e = absurd (cc)
same_run kind (x ∷ a) [] r (z ∷ q) ha hb hr hq e =
    let zx : z ≡ x = cc in
    absurd (clash (kind x) ((and_parts _ _ ha).0) (ap (λ k. not (kind k)) (sym zx) ∙ hq))

abbrev pub is_digit : ℕ → Bool
is_digit b = nat_le 48 b && nat_lt b 58

glyph : (d : ℕ) → d < 10 → is_digit (digit_text d) ≡ true
glyph d h = grind (arith, nat_tests)

all_glyphs : (ds : List ℕ) → AllBelowBase 10 ds → list_all is_digit (map digit_text ds) ≡ true
all_glyphs [] h = refl
all_glyphs (d ∷ ds) h = and_from _ _ (glyph d (h.0)) (all_glyphs ds (h.1))

-- a number's text has only digits
pub all_digits : (n : ℕ) → list_all is_digit (number_text n) ≡ true
unfolding number_text
all_digits zero = refl
all_digits (suc n) = all_glyphs (digits_of 10 (suc n)) (all_below_base_digits_of 10 (suc n) (omega arith))

same_glyphs : (a b : List ℕ) → map digit_text a ≡ map digit_text b → a ≡ b
same_glyphs [] [] e = refl
same_glyphs [] (y ∷ b) e = cc
same_glyphs (x ∷ a) [] e = cc
same_glyphs (x ∷ a) (y ∷ b) e =
    let h : 48 + x ≡ 48 + y = cc in
    let xy : x ≡ y = omega (arith, h) in
    let t : map digit_text a ≡ map digit_text b = cc in
    cc (xy, same_glyphs a b t)

-- the text of no number from 1 on is that of 0
not_zero : (ds : List ℕ) → 0 < get_or ds 0 0 → 48 ∷ [] ≡ map digit_text ds → ⊥
not_zero [] h e = omega arith
not_zero (d ∷ ds) h e = let k : 48 ≡ 48 + d = cc in omega (arith, k)

pub same_number : (m n : ℕ) → number_text m ≡ number_text n → m ≡ n
unfolding number_text
same_number zero zero e = refl
same_number zero (suc n) e = absurd (not_zero (digits_of 10 (suc n)) (first_digits_of 10 (suc n) (omega arith) (omega arith)) e)
same_number (suc m) zero e = absurd (not_zero (digits_of 10 (suc m)) (first_digits_of 10 (suc m) (omega arith) (omega arith)) (sym e))
same_number (suc m) (suc n) e = same_from_digits_of 10 (suc m) (suc n) (omega arith) (same_glyphs _ _ e)

pub read_number : (m n : ℕ) (r q : List ℕ) → stops is_digit r ≡ true → stops is_digit q ≡ true → number_text m ++ r ≡ number_text n ++ q → (m ≡ n) × (r ≡ q)
read_number m n r q hr hq e =
    let s = same_run is_digit (number_text m) (number_text n) r q (all_digits m) (all_digits n) hr hq e in
    (same_number m n (s.0), s.1)

starts : (ds r : List ℕ) → 0 < get_or ds 0 0 → AllBelowBase 10 ds → stops is_digit (map digit_text ds ++ r) ≡ false
starts [] r h a = absurd (omega arith)
starts (d ∷ ds) r h a = ap not (glyph d (a.0))

-- a number's text begins with a digit
pub digit_first : (n : ℕ) (r : List ℕ) → stops is_digit (number_text n ++ r) ≡ false
unfolding number_text
digit_first zero r = refl
digit_first (suc n) r = starts (digits_of 10 (suc n)) r (first_digits_of 10 (suc n) (omega arith) (omega arith)) (all_below_base_digits_of 10 (suc n) (omega arith))

pub not_number : (n : ℕ) (r q : List ℕ) → stops is_digit q ≡ true → number_text n ++ r ≡ q → ⊥
not_number n r q h e = both_ways _ (digit_first n r) (ap (stops is_digit) e ∙ h)

pub read_integer : (y z : ℤ) (r q : List ℕ) → stops is_digit r ≡ true → stops is_digit q ≡ true → integer_text y ++ r ≡ integer_text z ++ q → (y ≡ z) × (r ≡ q)
unfolding integer_text
read_integer (pos m) (pos n) r q hr hq e = let s = read_number m n r q hr hq e in (ap pos (s.0), s.1)
read_integer (pos m) (negsuc n) r q hr hq e = absurd (not_number m r _ refl e)
read_integer (negsuc m) (pos n) r q hr hq e = absurd (not_number n q _ refl (sym e))
read_integer (negsuc m) (negsuc n) r q hr hq e =
    let t : number_text (suc m) ++ r ≡ number_text (suc n) ++ q = cc in
    let s = read_number (suc m) (suc n) r q hr hq t in
    let k : m ≡ n = omega (arith, s.0) in
    (ap negsuc k, s.1)

-- The text of a form tells the form: a text that begins with it, and doesn't go on as a form, begins with no other form's text.
use Rattle.std.proofs.Common.{◌≡◌, refl, sym, ap, ◌∙◌, ℕ, zero, suc, ◌<◌, Bool, true, false, ◌&&◌, ◌||◌, nat_eq, ℤ, pos, negsuc, List, [], ◌∷◌, ◌++◌, get_or, length, ◌⊎◌, inl, inr, arith, append_assoc}
use Rattle.std.specs.Prelude.{codes, unsigned_abs}
use Rattle.std.proofs.lemmas.Bool.{both_ways, cases_Bool, cond-true, cond-false, eqb-true, eqb-false, not_from_false, not-false, or_parts}
use Rattle.std.proofs.lemmas.Bool.Decides.{nat_tests}
use Rattle.std.proofs.lemmas.List.{append_cancel_left}
use Rattle.ch_affine.specs.Affine.{form}
use Rattle.ch_affine.specs.Form.{Form}
use Rattle.ch_print.specs.Numbers.{integer_text, number_text}
use Rattle.ch_print.proofs.Readback.{digit_first, is_digit, not_number, read_integer, read_number, stops}
use Rattle.ch_code.specs.FormText.{constant_text, count_text, form_text, sign_text, sum_text, times_text, variable_text}

-- texts that differ in a byte
pub differ : (n : ℕ) (xs ys : List ℕ) → nat_eq (get_or xs n 0) (get_or ys n 0) ≡ false → xs ≡ ys → ⊥
differ n xs ys h e = eqb-false _ _ h (ap (λ zs. get_or zs n 0) e)

pub behind_one : (b c : ℕ) (xs ys : List ℕ) → b ∷ xs ≡ c ∷ ys → xs ≡ ys
behind_one b c xs ys e = cc

-- one text stops a kind of bytes, the other doesn't
pub starts_apart : (kind : ℕ → Bool) (xs ys : List ℕ) → stops kind xs ≡ true → stops kind ys ≡ false → xs ≡ ys → ⊥
starts_apart kind xs ys h k e = both_ways _ k (sym (ap (stops kind) e) ∙ h)

-- what begins with a digit begins with no byte of a kind without digits
digit_leads : (kind : ℕ → Bool) → ((b : ℕ) → is_digit b ≡ true → kind b ≡ false) → (xs : List ℕ) → stops is_digit xs ≡ false → stops kind xs ≡ true
digit_leads kind h [] e = absurd (both_ways _ e refl)
digit_leads kind h (b ∷ bs) e = not_from_false _ (h b (not-false _ e))

pub number_stops : (kind : ℕ → Bool) → ((b : ℕ) → is_digit b ≡ true → kind b ≡ false) → (n : ℕ) (r : List ℕ) → stops kind (number_text n ++ r) ≡ true
number_stops kind h n r = digit_leads kind h _ (digit_first n r)

-- a plus or a minus
abbrev pub is_sign : List ℕ → Bool
is_sign [] = false
is_sign (b ∷ bs) = nat_eq b 43 || nat_eq b 45

-- what goes on with a form: a digit, a `*`, or a blank before a sign
abbrev pub goes_on : List ℕ → Bool
goes_on [] = false
goes_on (b ∷ bs) = is_digit b || nat_eq b 42 || (nat_eq b 32 && is_sign bs)

pub ends_digits : (r : List ℕ) → goes_on r ≡ false → stops is_digit r ≡ true
ends_digits [] h = refl
ends_digits (b ∷ bs) h = not_from_false _ ((or_parts _ _ ((or_parts (is_digit b || nat_eq b 42) _ h).0)).0)

goes_apart : (r q : List ℕ) → goes_on r ≡ false → goes_on q ≡ true → r ≡ q → ⊥
goes_apart r q h k e = both_ways _ h (ap goes_on e ∙ k)

abbrev is_negative : ℤ → Bool
is_negative (pos n) = false
is_negative (negsuc n) = true

minus_digit : (b : ℕ) → is_digit b ≡ true → nat_eq 45 b ≡ false
minus_digit b h = grind (arith, nat_tests)

same_signed : (c d : ℤ) → is_negative c ≡ is_negative d → unsigned_abs c ≡ unsigned_abs d → c ≡ d
same_signed (pos m) (pos n) s e = ap pos e
same_signed (pos m) (negsuc n) s e = absurd (both_ways false refl s)
same_signed (negsuc m) (pos n) s e = absurd (both_ways true s refl)
same_signed (negsuc m) (negsuc n) s e = let k : m ≡ n = omega (arith, e) in ap negsuc k

read_sign : (first : Bool) (c d : ℤ) (a b : List ℕ) → stops (nat_eq 45) a ≡ true → stops (nat_eq 45) b ≡ true → sign_text first c ++ a ≡ sign_text first d ++ b
    → (is_negative c ≡ is_negative d) × (a ≡ b)
read_sign true (pos m) (pos n) a b ha hb e = (refl, e)
read_sign true (pos m) (negsuc n) a b ha hb e = absurd (starts_apart (nat_eq 45) a (45 ∷ b) ha refl e)
read_sign true (negsuc m) (pos n) a b ha hb e = absurd (starts_apart (nat_eq 45) b (45 ∷ a) hb refl (sym e))
read_sign true (negsuc m) (negsuc n) a b ha hb e = (refl, behind_one _ _ _ _ e)
read_sign false (pos m) (pos n) a b ha hb e = (refl, append_cancel_left (codes " + ") a b e)
read_sign false (pos m) (negsuc n) a b ha hb e = absurd (differ 1 _ _ refl e)
read_sign false (negsuc m) (pos n) a b ha hb e = absurd (differ 1 _ _ refl e)
read_sign false (negsuc m) (negsuc n) a b ha hb e = (refl, append_cancel_left (codes " - ") a b e)

same_form : (f g : Form) → f.coefs ≡ g.coefs → f.constant ≡ g.constant → f ≡ g
same_form f g c k = ap (λ cs. form cs f.constant) c ∙ ap (λ z. form g.coefs z) k

module _ (letter : ℕ) (no_digit : is_digit letter ≡ false) (no_minus : nat_eq 45 letter ≡ false) (no_count : nat_eq 111 letter ≡ false) where
  one_long : (n : ℕ) (a b : List ℕ) → letter ∷ a ≡ (number_text n ++ codes "*") ++ letter ∷ b → ⊥
  one_long n a b e = not_number n (42 ∷ letter ∷ b) (letter ∷ a) (not_from_false _ no_digit) (sym (append_assoc (number_text n) (codes "*") (letter ∷ b)) ∙ sym e)

  both_long : (m n : ℕ) (a b : List ℕ) → (number_text m ++ codes "*") ++ letter ∷ a ≡ (number_text n ++ codes "*") ++ letter ∷ b → (m ≡ n) × (a ≡ b)
  both_long m n a b e =
      let s = read_number m n (42 ∷ letter ∷ a) (42 ∷ letter ∷ b) refl refl
      (sym (append_assoc (number_text m) (codes "*") (letter ∷ a)) ∙ e ∙ append_assoc (number_text n) (codes "*") (letter ∷ b)) in
      (s.0, behind_one _ _ _ _ (behind_one _ _ _ _ (s.1)))

  read_times : (m n : ℕ) (a b : List ℕ) → times_text m ++ letter ∷ a ≡ times_text n ++ letter ∷ b → (m ≡ n) × (a ≡ b)
  read_times zero zero a b e = both_long zero zero a b e
  read_times zero (suc zero) a b e = absurd (one_long zero b a (sym e))
  read_times zero (suc (suc n)) a b e = both_long zero (suc (suc n)) a b e
  read_times (suc zero) zero a b e = absurd (one_long zero a b e)
  read_times (suc zero) (suc zero) a b e = (refl, behind_one _ _ _ _ e)
  read_times (suc zero) (suc (suc n)) a b e = absurd (one_long (suc (suc n)) a b e)
  read_times (suc (suc m)) zero a b e = both_long (suc (suc m)) zero a b e
  read_times (suc (suc m)) (suc zero) a b e = absurd (one_long (suc (suc m)) b a (sym e))
  read_times (suc (suc m)) (suc (suc n)) a b e = both_long (suc (suc m)) (suc (suc n)) a b e

  times_stops : (kind : ℕ → Bool) → ((b : ℕ) → is_digit b ≡ true → kind b ≡ false) → kind letter ≡ false → (n : ℕ) (a : List ℕ) → stops kind (times_text n ++ letter ∷ a) ≡ true
  times_stops kind h hl zero a = ap (stops kind) (append_assoc (number_text zero) (codes "*") (letter ∷ a)) ∙ number_stops kind h zero _
  times_stops kind h hl (suc zero) a = not_from_false _ hl
  times_stops kind h hl (suc (suc n)) a = ap (stops kind) (append_assoc (number_text (suc (suc n))) (codes "*") (letter ∷ a)) ∙ number_stops kind h (suc (suc n)) _

  -- a coefficient with its variable, whether it is 0 or not
  abbrev written : Bool → ℤ → ℕ → List ℕ
  written first c k = sign_text first c ++ times_text (unsigned_abs c) ++ variable_text letter k

  abbrev behind_sign : ℤ → ℕ → List ℕ → List ℕ
  behind_sign c k r = times_text (unsigned_abs c) ++ letter ∷ (number_text k ++ r)

  written_is : (first : Bool) (c : ℤ) (k : ℕ) (r : List ℕ) → written first c k ++ r ≡ sign_text first c ++ behind_sign c k r
  written_is first c k r =
      append_assoc (sign_text first c ++ times_text (unsigned_abs c)) (variable_text letter k) r
      ∙ append_assoc (sign_text first c) (times_text (unsigned_abs c)) (letter ∷ (number_text k ++ r))

  minus_first : (c : ℤ) (k : ℕ) (r : List ℕ) → stops (nat_eq 45) (behind_sign c k r) ≡ true
  minus_first c k r = times_stops (nat_eq 45) minus_digit no_minus (unsigned_abs c) (number_text k ++ r)

  read_written : (first : Bool) (c d : ℤ) (j k : ℕ) (r q : List ℕ) → stops is_digit r ≡ true → stops is_digit q ≡ true → written first c j ++ r ≡ written first d k ++ q
      → (c ≡ d) × (j ≡ k) × (r ≡ q)
  read_written first c d j k r q hr hq e =
      let s = read_sign first c d (behind_sign c j r) (behind_sign d k q) (minus_first c j r) (minus_first d k q) (sym (written_is first c j r) ∙ e ∙ written_is first d k q) in
      let t = read_times (unsigned_abs c) (unsigned_abs d) (number_text j ++ r) (number_text k ++ q) (s.1) in
      let u = read_number j k r q hr hq (t.1) in
      (same_signed c d (s.0) (t.0), u.0, u.1)

  long_apart : (n m : ℕ) (r a : List ℕ) → goes_on r ≡ false → number_text n ++ r ≡ (number_text m ++ codes "*") ++ letter ∷ a → ⊥
  long_apart n m r a h e =
      let s = read_number n m r (42 ∷ letter ∷ a) (ends_digits r h) refl (e ∙ append_assoc (number_text m) (codes "*") (letter ∷ a)) in
      goes_apart r (42 ∷ letter ∷ a) h refl (s.1)

  number_apart : (n m : ℕ) (r a : List ℕ) → goes_on r ≡ false → number_text n ++ r ≡ times_text m ++ letter ∷ a → ⊥
  number_apart n zero r a h e = long_apart n zero r a h e
  number_apart n (suc zero) r a h e = not_number n r (letter ∷ a) (not_from_false _ no_digit) e
  number_apart n (suc (suc m)) r a h e = long_apart n (suc (suc m)) r a h e

  -- a constant isn't a coefficient with its variable
  constant_apart_is : (first : Bool) (z d : ℤ) (k : ℕ) (r q : List ℕ) → goes_on r ≡ false → constant_text first z ++ r ≡ sign_text first d ++ behind_sign d k q → ⊥
  unfolding integer_text
  constant_apart_is true (pos n) (pos m) k r q h e = number_apart n m r _ h e
  constant_apart_is true (pos n) (negsuc m) k r q h e = not_number n r _ refl e
  constant_apart_is true (negsuc n) (pos m) k r q h e = starts_apart (nat_eq 45) _ (45 ∷ (number_text (suc n) ++ r)) (minus_first (pos m) k q) refl (sym e)
  constant_apart_is true (negsuc n) (negsuc m) k r q h e = number_apart (suc n) (suc m) r _ h (behind_one _ _ _ _ e)
  constant_apart_is false (pos zero) (pos m) k r q h e = goes_apart r _ h refl e
  constant_apart_is false (pos zero) (negsuc m) k r q h e = goes_apart r _ h refl e
  constant_apart_is false (pos (suc n)) (pos m) k r q h e = number_apart (suc n) m r _ h (append_cancel_left (codes " + ") _ _ e)
  constant_apart_is false (pos (suc n)) (negsuc m) k r q h e = differ 1 _ _ refl e
  constant_apart_is false (negsuc n) (pos m) k r q h e = differ 1 _ _ refl e
  constant_apart_is false (negsuc n) (negsuc m) k r q h e = number_apart (suc n) (suc m) r _ h (append_cancel_left (codes " - ") _ _ e)

  constant_apart : (first : Bool) (z d : ℤ) (k : ℕ) (r q : List ℕ) → goes_on r ≡ false → constant_text first z ++ r ≡ written first d k ++ q → ⊥
  constant_apart first z d k r q h e = constant_apart_is first z d k r q h (e ∙ written_is first d k q)

  read_constant : (first : Bool) (z w : ℤ) (r q : List ℕ) → goes_on r ≡ false → goes_on q ≡ false → constant_text first z ++ r ≡ constant_text first w ++ q → (z ≡ w) × (r ≡ q)
  read_constant true z w r q hr hq e = read_integer z w r q (ends_digits r hr) (ends_digits q hq) e
  read_constant false (pos zero) (pos zero) r q hr hq e = (refl, e)
  read_constant false (pos zero) (pos (suc n)) r q hr hq e = absurd (goes_apart r _ hr refl e)
  read_constant false (pos zero) (negsuc n) r q hr hq e = absurd (goes_apart r _ hr refl e)
  read_constant false (pos (suc m)) (pos zero) r q hr hq e = absurd (goes_apart q _ hq refl (sym e))
  read_constant false (negsuc m) (pos zero) r q hr hq e = absurd (goes_apart q _ hq refl (sym e))
  read_constant false (pos (suc m)) (negsuc n) r q hr hq e = absurd (differ 1 _ _ refl e)
  read_constant false (negsuc m) (pos (suc n)) r q hr hq e = absurd (differ 1 _ _ refl e)
  read_constant false (pos (suc m)) (pos (suc n)) r q hr hq e =
      let s = read_number (suc m) (suc n) r q (ends_digits r hr) (ends_digits q hq) (append_cancel_left (codes " + ") _ _ e) in
      (ap pos (s.0), s.1)
  read_constant false (negsuc m) (negsuc n) r q hr hq e =
      let s = read_number (suc m) (suc n) r q (ends_digits r hr) (ends_digits q hq) (append_cancel_left (codes " - ") _ _ e) in
      let k : m ≡ n = omega (arith, s.0) in
      (ap negsuc k, s.1)

  -- behind a coefficient no digit follows
  rest_stops : (k : ℕ) (cs : List ℤ) (z : ℤ) (r : List ℕ) → goes_on r ≡ false → stops is_digit (sum_text letter false k cs z ++ r) ≡ true
  rest_stops k [] (pos zero) r h = ends_digits r h
  rest_stops k [] (pos (suc n)) r h = refl
  rest_stops k [] (negsuc n) r h = refl
  rest_stops k (pos zero ∷ cs) z r h = rest_stops (suc k) cs z r h
  rest_stops k (pos (suc n) ∷ cs) z r h = refl
  rest_stops k (negsuc n ∷ cs) z r h = refl

  later : (first : Bool) (c : ℤ) (cs : List ℤ) (j k : ℕ) (z d : ℤ) (r q : List ℕ) → k < j → goes_on r ≡ false → stops is_digit q ≡ true
      → written first c j ++ sum_text letter false (suc j) cs z ++ r ≡ written first d k ++ q → ⊥
  later first c cs j k z d r q l hr hq e =
      let s = read_written first c d j k (sum_text letter false (suc j) cs z ++ r) q (rest_stops (suc j) cs z r hr) hq
      (sym (append_assoc (written first c j) (sum_text letter false (suc j) cs z) r) ∙ e) in
      omega (arith, s.1)

  -- the variables before the j-th don't appear any more
  no_earlier : (first : Bool) (cs : List ℤ) (j k : ℕ) (z d : ℤ) (r q : List ℕ) → k < j → goes_on r ≡ false → stops is_digit q ≡ true
      → sum_text letter first j cs z ++ r ≡ written first d k ++ q → ⊥
  no_earlier first [] j k z d r q l hr hq e = constant_apart first z d k r q hr e
  no_earlier first (pos zero ∷ cs) j k z d r q l hr hq e = no_earlier first cs (suc j) k z d r q (omega arith) hr hq e
  no_earlier first (pos (suc n) ∷ cs) j k z d r q l hr hq e = later first (pos (suc n)) cs j k z d r q l hr hq e
  no_earlier first (negsuc n ∷ cs) j k z d r q l hr hq e = later first (negsuc n) cs j k z d r q l hr hq e

  both_written : (first : Bool) (c d : ℤ) (cs ds : List ℤ) (k : ℕ) (z w : ℤ) (r q : List ℕ) → goes_on r ≡ false → goes_on q ≡ false
      → written first c k ++ sum_text letter false (suc k) cs z ++ r ≡ written first d k ++ sum_text letter false (suc k) ds w ++ q
      → (c ≡ d) × (sum_text letter false (suc k) cs z ++ r ≡ sum_text letter false (suc k) ds w ++ q)
  both_written first c d cs ds k z w r q hr hq e =
      let s = read_written first c d k k (sum_text letter false (suc k) cs z ++ r) (sum_text letter false (suc k) ds w ++ q) (rest_stops (suc k) cs z r hr) (rest_stops (suc k) ds w q hq)
      (sym (append_assoc (written first c k) (sum_text letter false (suc k) cs z) r) ∙ e ∙ append_assoc (written first d k) (sum_text letter false (suc k) ds w) q) in
      (s.0, s.2)

  one_written : (first : Bool) (d : ℤ) (cs ds : List ℤ) (k : ℕ) (z w : ℤ) (r q : List ℕ) → goes_on r ≡ false → goes_on q ≡ false
      → sum_text letter first (suc k) cs z ++ r ≡ written first d k ++ sum_text letter false (suc k) ds w ++ q → ⊥
  one_written first d cs ds k z w r q hr hq e =
      no_earlier first cs (suc k) k z d r (sum_text letter false (suc k) ds w ++ q) (omega arith) hr (rest_stops (suc k) ds w q hq)
      (e ∙ append_assoc (written first d k) (sum_text letter false (suc k) ds w) q)

  abbrev SameSums : List ℤ → List ℤ → ℤ → ℤ → List ℕ → List ℕ → Type 0
  SameSums cs ds z w r q = (cs ≡ ds) × (z ≡ w) × (r ≡ q)

  one_more : (c d : ℤ) (cs ds : List ℤ) (z w : ℤ) (r q : List ℕ) → c ≡ d → SameSums cs ds z w r q → SameSums (c ∷ cs) (d ∷ ds) z w r q
  one_more c d cs ds z w r q h s = (cc (h, s.0), s.1, s.2)

  read_sum : (first : Bool) (cs ds : List ℤ) (k : ℕ) (z w : ℤ) (r q : List ℕ) → length cs ≡ length ds → goes_on r ≡ false → goes_on q ≡ false
      → sum_text letter first k cs z ++ r ≡ sum_text letter first k ds w ++ q → SameSums cs ds z w r q
  read_sum first [] [] k z w r q l hr hq e = let s = read_constant first z w r q hr hq e in (refl, s.0, s.1)
  read_sum first [] (d ∷ ds) k z w r q l hr hq e = absurd (omega (arith, l))
  read_sum first (c ∷ cs) [] k z w r q l hr hq e = absurd (omega (arith, l))
  read_sum first (pos zero ∷ cs) (pos zero ∷ ds) k z w r q l hr hq e =
      one_more _ _ cs ds z w r q refl (read_sum first cs ds (suc k) z w r q (omega (arith, l)) hr hq e)
  read_sum first (pos zero ∷ cs) (pos (suc n) ∷ ds) k z w r q l hr hq e = absurd (one_written first (pos (suc n)) cs ds k z w r q hr hq e)
  read_sum first (pos zero ∷ cs) (negsuc n ∷ ds) k z w r q l hr hq e = absurd (one_written first (negsuc n) cs ds k z w r q hr hq e)
  read_sum first (pos (suc m) ∷ cs) (pos zero ∷ ds) k z w r q l hr hq e = absurd (one_written first (pos (suc m)) ds cs k w z q r hq hr (sym e))
  read_sum first (negsuc m ∷ cs) (pos zero ∷ ds) k z w r q l hr hq e = absurd (one_written first (negsuc m) ds cs k w z q r hq hr (sym e))
  read_sum first (pos (suc m) ∷ cs) (pos (suc n) ∷ ds) k z w r q l hr hq e =
      let s = both_written first (pos (suc m)) (pos (suc n)) cs ds k z w r q hr hq e in
      one_more _ _ cs ds z w r q (s.0) (read_sum false cs ds (suc k) z w r q (omega (arith, l)) hr hq (s.1))
  read_sum first (pos (suc m) ∷ cs) (negsuc n ∷ ds) k z w r q l hr hq e =
      let s = both_written first (pos (suc m)) (negsuc n) cs ds k z w r q hr hq e in
      one_more _ _ cs ds z w r q (s.0) (read_sum false cs ds (suc k) z w r q (omega (arith, l)) hr hq (s.1))
  read_sum first (negsuc m ∷ cs) (pos (suc n) ∷ ds) k z w r q l hr hq e =
      let s = both_written first (negsuc m) (pos (suc n)) cs ds k z w r q hr hq e in
      one_more _ _ cs ds z w r q (s.0) (read_sum false cs ds (suc k) z w r q (omega (arith, l)) hr hq (s.1))
  read_sum first (negsuc m ∷ cs) (negsuc n ∷ ds) k z w r q l hr hq e =
      let s = both_written first (negsuc m) (negsuc n) cs ds k z w r q hr hq e in
      one_more _ _ cs ds z w r q (s.0) (read_sum false cs ds (suc k) z w r q (omega (arith, l)) hr hq (s.1))

  -- a sum begins with a digit, a minus or the letter
  sum_stops : (kind : ℕ → Bool) → ((b : ℕ) → is_digit b ≡ true → kind b ≡ false) → kind 45 ≡ false → kind letter ≡ false
      → (k : ℕ) (cs : List ℤ) (z : ℤ) (r : List ℕ) → stops kind (sum_text letter true k cs z ++ r) ≡ true
  unfolding integer_text
  sum_stops kind hd hm hl k [] (pos n) r = number_stops kind hd n r
  sum_stops kind hd hm hl k [] (negsuc n) r = not_from_false _ hm
  sum_stops kind hd hm hl k (pos zero ∷ cs) z r = sum_stops kind hd hm hl (suc k) cs z r
  sum_stops kind hd hm hl k (pos (suc n) ∷ cs) z r =
      ap (stops kind) (append_assoc (written true (pos (suc n)) k) (sum_text letter false (suc k) cs z) r ∙ written_is true (pos (suc n)) k _)
      ∙ times_stops kind hd hl (suc n) _
  sum_stops kind hd hm hl k (negsuc n ∷ cs) z r = not_from_false _ hm

  count_cases : (n count : ℕ) → ((count ≡ n) × (count_text n count ≡ [])) ⊎ (count_text n count ≡ codes "of " ++ number_text count ++ codes ": ")
  count_cases n count = elim (cases_Bool (nat_eq count n)) as (λ _. ((count ≡ n) × (count_text n count ≡ [])) ⊎ (count_text n count ≡ codes "of " ++ number_text count ++ codes ": ")) [
    | inl same ↦ inl (eqb-true _ _ same, cond-true _ _ _ same)
    | inr other ↦ inr (cond-false _ _ _ other)
  ]

  count_behind : (n count : ℕ) (text r : List ℕ) → text ≡ codes "of " ++ number_text count ++ codes ": " → text ++ r ≡ codes "of " ++ (number_text count ++ (codes ": " ++ r))
  count_behind n count text r e =
      ap (λ t. t ++ r) e ∙ append_assoc (codes "of " ++ number_text count) (codes ": ") r ∙ append_assoc (codes "of ") (number_text count) (codes ": " ++ r)

  read_count : (n a b : ℕ) (r q : List ℕ) → stops (nat_eq 111) r ≡ true → stops (nat_eq 111) q ≡ true → count_text n a ++ r ≡ count_text n b ++ q → (a ≡ b) × (r ≡ q)
  read_count n a b r q hr hq e = elim (count_cases n a) as (λ _. (a ≡ b) × (r ≡ q)) [
    | inl x ↦ elim (count_cases n b) as (λ _. (a ≡ b) × (r ≡ q)) [
      | inl y ↦ (x.0 ∙ sym (y.0), sym (ap (λ t. t ++ r) (x.1)) ∙ e ∙ ap (λ t. t ++ q) (y.1))
      | inr y ↦ absurd (starts_apart (nat_eq 111) r _ hr refl (sym (ap (λ t. t ++ r) (x.1)) ∙ e ∙ count_behind n b _ q y))
    ]
    | inr x ↦ elim (count_cases n b) as (λ _. (a ≡ b) × (r ≡ q)) [
      | inl y ↦ absurd (starts_apart (nat_eq 111) q _ hq refl (sym (sym (count_behind n a _ r x) ∙ e ∙ ap (λ t. t ++ q) (y.1))))
      | inr y ↦
          let s = read_number a b (codes ": " ++ r) (codes ": " ++ q) refl refl (append_cancel_left (codes "of ") _ _ (sym (count_behind n a _ r x) ∙ e ∙ count_behind n b _ q y)) in
          (s.0, append_cancel_left (codes ": ") r q (s.1))
    ]
  ]

  count_digit : (b : ℕ) → is_digit b ≡ true → nat_eq 111 b ≡ false
  count_digit b h = grind (arith, nat_tests)

  pub read_form : (n : ℕ) (f g : Form) (r q : List ℕ) → goes_on r ≡ false → goes_on q ≡ false → form_text letter n f ++ r ≡ form_text letter n g ++ q → (f ≡ g) × (r ≡ q)
  unfolding form_text
  read_form n f g r q hr hq e =
      let s = read_count n (length f.coefs) (length g.coefs) (sum_text letter true 1 f.coefs f.constant ++ r) (sum_text letter true 1 g.coefs g.constant ++ q)
      (sum_stops (nat_eq 111) count_digit refl no_count 1 f.coefs f.constant r) (sum_stops (nat_eq 111) count_digit refl no_count 1 g.coefs g.constant q)
      (sym (append_assoc (count_text n (length f.coefs)) _ r) ∙ e ∙ append_assoc (count_text n (length g.coefs)) _ q) in
      let t = read_sum true f.coefs g.coefs 1 f.constant g.constant r q (s.0) hr hq (s.1) in
      (same_form f g (t.0) (t.1), t.2)

  -- a form begins with a digit, a minus, the letter or `o`
  pub form_stops : (kind : ℕ → Bool) → ((b : ℕ) → is_digit b ≡ true → kind b ≡ false) → kind 45 ≡ false → kind letter ≡ false → kind 111 ≡ false
      → (n : ℕ) (f : Form) (r : List ℕ) → stops kind (form_text letter n f ++ r) ≡ true
  unfolding form_text
  form_stops kind hd hm hl ho n f r = elim (count_cases n (length f.coefs)) as (λ _. stops kind (form_text letter n f ++ r) ≡ true) [
    | inl x ↦ ap (stops kind) (append_assoc (count_text n (length f.coefs)) _ r ∙ ap (λ t. t ++ (sum_text letter true 1 f.coefs f.constant ++ r)) (x.1))
        ∙ sum_stops kind hd hm hl 1 f.coefs f.constant r
    | inr x ↦ ap (stops kind) (append_assoc (count_text n (length f.coefs)) _ r ∙ count_behind n (length f.coefs) _ _ x) ∙ not_from_false _ ho
  ]

-- The head of a guard tells its system.
use Rattle.std.proofs.Common.{◌≡◌, refl, sym, ap, ◌∙◌, ℕ, Bool, true, false, nat_eq, nat_lt, ℤ, pos, negsuc, List, [], ◌∷◌, ◌++◌, length, ◌⊎◌, inl, inr, arith, append_assoc}
use Rattle.std.specs.Prelude.{codes}
use Rattle.std.specs.List.{flat_map}
use Rattle.std.proofs.lemmas.Bool.{cases_Bool, cond-true, cond-false, eqb-true, not_from_false}
use Rattle.std.proofs.lemmas.Bool.Decides.{nat_tests}
use Rattle.std.proofs.lemmas.List.{append_cancel_left}
use Rattle.ch_affine.specs.Form.{Form}
use Rattle.ch_affine.specs.Rows.{Rows, system}
use Rattle.ch_affine.specs.declared.system.Range.{Range}
use Rattle.ch_print.specs.Numbers.{integer_text, number_text}
use Rattle.ch_print.proofs.Readback.{is_digit, read_integer, read_number, stops}
use Rattle.ch_code.specs.FormText.{form_text, looped, variable_text}
use Rattle.ch_code.specs.LoopText.{if_text, more_ranges_text, range_text, ranges_text, row_text, some_text, variables_text}
use Rattle.ch_code.proofs.ReadForms.{number_stops, starts_apart}
use Rattle.ch_code.proofs.ReadHeads.{read_loop_form}
use Rattle.ch_code.proofs.ReadLists.{apart_by, leads, leads_with, read_all}

pub integer_stops : (kind : ℕ → Bool) → ((b : ℕ) → is_digit b ≡ true → kind b ≡ false) → kind 45 ≡ false → (z : ℤ) (r : List ℕ) → stops kind (integer_text z ++ r) ≡ true
unfolding integer_text
integer_stops kind hd hm (pos n) r = number_stops kind hd n r
integer_stops kind hd hm (negsuc n) r = not_from_false _ hm

range_is : (n k : ℕ) (x : Range) (r : List ℕ)
    → range_text n k x ++ r ≡ some_text n k ++ (integer_text x.low ++ (codes " <= x" ++ (number_text k ++ (codes " <= " ++ (integer_text x.high ++ r)))))
unfolding range_text
range_is n k x r = simp append_assoc

same_range : (x y : Range) → x.low ≡ y.low → x.high ≡ y.high → x ≡ y
same_range x y l h =
    let with_low : ℤ → Range = λ z. record { low = z; high = x.high } in
    let with_high : ℤ → Range = λ z. record { low = y.low; high = z } in
    ap with_low l ∙ ap with_high h

read_range : (n k : ℕ) (x y : Range) (r q : List ℕ) → stops is_digit r ≡ true → stops is_digit q ≡ true → range_text n k x ++ r ≡ range_text n k y ++ q → (x ≡ y) × (r ≡ q)
read_range n k x y r q hr hq e =
    let a = append_cancel_left (some_text n k) _ _ (sym (range_is n k x r) ∙ e ∙ range_is n k y q) in
    let s = read_integer x.low y.low (codes " <= x" ++ (number_text k ++ (codes " <= " ++ (integer_text x.high ++ r)))) (codes " <= x" ++ (number_text k ++ (codes " <= " ++ (integer_text y.high ++ q)))) refl refl a in
    let t = append_cancel_left (codes " <= ") _ _ (append_cancel_left (number_text k) _ _ (append_cancel_left (codes " <= x") _ _ (s.1))) in
    let u = read_integer x.high y.high r q hr hq t in
    (same_range x y (s.0) (u.0), u.1)

true_digit : (b : ℕ) → is_digit b ≡ true → nat_eq 116 b ≡ false
true_digit b h = grind (arith, nat_tests)

some_first : (n k : ℕ) (r : List ℕ) → stops (nat_eq 116) r ≡ true → stops (nat_eq 116) (some_text n k ++ r) ≡ true
some_first n k r h = elim (cases_Bool (nat_lt n k)) as (λ _. stops (nat_eq 116) (some_text n k ++ r) ≡ true) [
  | inl hidden ↦ ap (λ t. stops (nat_eq 116) (t ++ r)) (cond-true (nat_lt n k) (codes "some " ++ variable_text looped k ++ codes ": ") [] hidden)
  | inr around ↦ ap (λ t. stops (nat_eq 116) (t ++ r)) (cond-false (nat_lt n k) (codes "some " ++ variable_text looped k ++ codes ": ") [] around) ∙ h
]

-- a range doesn't begin as `true`
range_first : (n k : ℕ) (x : Range) (r : List ℕ) → stops (nat_eq 116) (range_text n k x ++ r) ≡ true
range_first n k x r = ap (stops (nat_eq 116)) (range_is n k x r) ∙ some_first n k _ (integer_stops (nat_eq 116) true_digit refl x.low _)

more_digits : (n k : ℕ) (xs : List Range) (r : List ℕ) → stops is_digit r ≡ true → stops is_digit (more_ranges_text n k xs ++ r) ≡ true
more_digits n k [] r h = h
more_digits n k (x ∷ xs) r h = refl

read_more_ranges : (n k : ℕ) (xs ys : List Range) (r q : List ℕ) → leads 44 r ≡ false → leads 44 q ≡ false → stops is_digit r ≡ true → stops is_digit q ≡ true
    → more_ranges_text n k xs ++ r ≡ more_ranges_text n k ys ++ q → (xs ≡ ys) × (r ≡ q)
read_more_ranges n = read_all (λ k x. codes ", " ++ range_text n k x) (more_ranges_text n) (λ k. refl) (λ k x xs. refl) (leads 44) (λ t. stops is_digit t ≡ true) (λ k x t. refl) (λ k x t. refl)
    (λ k x y r q hr hq e. read_range n k x y r q hr hq (append_cancel_left (codes ", ") _ _ e))

read_ranges : (n : ℕ) (xs ys : List Range) (r q : List ℕ) → leads 44 r ≡ false → leads 44 q ≡ false → stops is_digit r ≡ true → stops is_digit q ≡ true
    → ranges_text n xs ++ r ≡ ranges_text n ys ++ q → (xs ≡ ys) × (r ≡ q)
read_ranges n [] [] r q cr cq hr hq e = (refl, append_cancel_left (codes "true") r q e)
read_ranges n [] (y ∷ ys) r q cr cq hr hq e =
    absurd (starts_apart (nat_eq 116) _ (codes "true" ++ r) (range_first n 1 y _) refl (sym (e ∙ append_assoc (range_text n 1 y) (more_ranges_text n 2 ys) q)))
read_ranges n (x ∷ xs) [] r q cr cq hr hq e =
    absurd (starts_apart (nat_eq 116) _ (codes "true" ++ q) (range_first n 1 x _) refl (sym (append_assoc (range_text n 1 x) (more_ranges_text n 2 xs) r) ∙ e))
read_ranges n (x ∷ xs) (y ∷ ys) r q cr cq hr hq e =
    let s = read_range n 1 x y (more_ranges_text n 2 xs ++ r) (more_ranges_text n 2 ys ++ q) (more_digits n 2 xs r hr) (more_digits n 2 ys q hq)
    (sym (append_assoc (range_text n 1 x) (more_ranges_text n 2 xs) r) ∙ e ∙ append_assoc (range_text n 1 y) (more_ranges_text n 2 ys) q) in
    let t = read_more_ranges n 2 xs ys r q cr cq hr hq (s.1) in
    (ap (λ z. z ∷ xs) (s.0) ∙ ap (λ zs. y ∷ zs) (t.0), t.1)

variables_cases : (n count : ℕ) → ((count ≡ n) × (variables_text n count ≡ [])) ⊎ (variables_text n count ≡ codes " of " ++ number_text count)
variables_cases n count = elim (cases_Bool (nat_eq count n)) as (λ _. ((count ≡ n) × (variables_text n count ≡ [])) ⊎ (variables_text n count ≡ codes " of " ++ number_text count)) [
  | inl same ↦ inl (eqb-true _ _ same, cond-true _ _ _ same)
  | inr other ↦ inr (cond-false _ _ _ other)
]

variables_behind : (count : ℕ) (text r : List ℕ) → text ≡ codes " of " ++ number_text count → text ++ r ≡ codes " of " ++ (number_text count ++ r)
variables_behind count text r e = ap (λ t. t ++ r) e ∙ append_assoc (codes " of ") (number_text count) r

read_variables : (n a b : ℕ) (r q : List ℕ) → leads_with 32 111 r ≡ false → leads_with 32 111 q ≡ false → stops is_digit r ≡ true → stops is_digit q ≡ true
    → variables_text n a ++ r ≡ variables_text n b ++ q → (a ≡ b) × (r ≡ q)
read_variables n a b r q or oq hr hq e = elim (variables_cases n a) as (λ _. (a ≡ b) × (r ≡ q)) [
  | inl x ↦ elim (variables_cases n b) as (λ _. (a ≡ b) × (r ≡ q)) [
    | inl y ↦ (x.0 ∙ sym (y.0), sym (ap (λ t. t ++ r) (x.1)) ∙ e ∙ ap (λ t. t ++ q) (y.1))
    | inr y ↦ absurd (apart_by (leads_with 32 111) r _ or refl (sym (ap (λ t. t ++ r) (x.1)) ∙ e ∙ variables_behind b _ q y))
  ]
  | inr x ↦ elim (variables_cases n b) as (λ _. (a ≡ b) × (r ≡ q)) [
    | inl y ↦ absurd (apart_by (leads_with 32 111) q _ oq refl (sym (sym (variables_behind a _ r x) ∙ e ∙ ap (λ t. t ++ q) (y.1))))
    | inr y ↦ read_number a b r q hr hq (append_cancel_left (codes " of ") _ _ (sym (variables_behind a _ r x) ∙ e ∙ variables_behind b _ q y))
  ]
]

row_is : (n : ℕ) (f : Form) (r : List ℕ) → row_text n f ++ r ≡ codes " and " ++ (form_text looped n f ++ (codes " >= 0" ++ r))
row_is n f r = simp append_assoc

read_row : (n : ℕ) (f g : Form) (r q : List ℕ) → row_text n f ++ r ≡ row_text n g ++ q → (f ≡ g) × (r ≡ q)
read_row n f g r q e =
    let s = read_loop_form n f g (codes " >= 0" ++ r) (codes " >= 0" ++ q) refl refl (append_cancel_left (codes " and ") _ _ (sym (row_is n f r) ∙ e ∙ row_is n g q)) in
    (s.0, append_cancel_left (codes " >= 0") r q (s.1))

read_rows : (n : ℕ) (fs gs : List Form) (r q : List ℕ) → leads_with 32 97 r ≡ false → leads_with 32 97 q ≡ false → flat_map (row_text n) fs ++ r ≡ flat_map (row_text n) gs ++ q
    → (fs ≡ gs) × (r ≡ q)
read_rows n fs gs r q ar aq e =
    read_all (λ k. row_text n) (λ k. flat_map (row_text n)) (λ k. refl) (λ k x xs. refl) (leads_with 32 97) (λ t. Unit {0}) (λ k x t. refl) (λ k x t. tt) (λ k x y r q hr hq. read_row n x y r q)
    0 fs gs r q ar aq tt tt e

-- What stands behind a head: a line's end, or a blank and a brace.
abbrev pub Behind : List ℕ → Type 0
Behind t = ((x : List ℕ) × (t ≡ 10 ∷ x)) ⊎ ((x : List ℕ) × (t ≡ 32 ∷ 123 ∷ x))

pub behind_test : (test : List ℕ → Bool) (b : Bool) → ((x : List ℕ) → test (10 ∷ x) ≡ b) → ((x : List ℕ) → test (32 ∷ 123 ∷ x) ≡ b) → (t : List ℕ) → Behind t → test t ≡ b
behind_test test b line brace t (inl h) = ap test (h.1) ∙ line (h.0)
behind_test test b line brace t (inr h) = ap test (h.1) ∙ brace (h.0)

module _ (test : List ℕ → Bool) (b : Bool) (line : (x : List ℕ) → test (10 ∷ x) ≡ b) (brace : (x : List ℕ) → test (32 ∷ 123 ∷ x) ≡ b) (row : (x : List ℕ) → test (32 ∷ 97 ∷ x) ≡ b) where
  rows_test : (n : ℕ) (fs : List Form) (t : List ℕ) → Behind t → test (flat_map (row_text n) fs ++ t) ≡ b
  rows_test n [] t h = behind_test test b line brace t h
  rows_test n (f ∷ fs) t h = row _

  module _ (variables : (x : List ℕ) → test (32 ∷ 111 ∷ x) ≡ b) where
    variables_test : (k c n : ℕ) (fs : List Form) (t : List ℕ) → Behind t → test (variables_text k c ++ (flat_map (row_text n) fs ++ t)) ≡ b
    variables_test k c n fs t h = elim (variables_cases k c) as (λ _. test (variables_text k c ++ (flat_map (row_text n) fs ++ t)) ≡ b) [
      | inl x ↦ ap (λ u. test (u ++ (flat_map (row_text n) fs ++ t))) (x.1) ∙ rows_test n fs t h
      | inr x ↦ ap test (variables_behind c _ _ x) ∙ variables _
    ]

if_is : (n : ℕ) (s : Rows) (r : List ℕ)
    → if_text n s ++ r ≡ codes "if " ++ (ranges_text n s.boxes ++ (variables_text (length s.boxes) s.vars ++ (flat_map (row_text s.vars) s.rows ++ r)))
unfolding if_text
if_is n s r = simp append_assoc

same_system : (s u : Rows) → s.vars ≡ u.vars → s.rows ≡ u.rows → s.boxes ≡ u.boxes → s ≡ u
same_system s u v r b = ap (λ x. system x s.rows s.boxes) v ∙ ap (λ x. system u.vars x s.boxes) r ∙ ap (λ x. system u.vars u.rows x) b

pub read_if : (n : ℕ) (s u : Rows) (r q : List ℕ) → Behind r → Behind q → if_text n s ++ r ≡ if_text n u ++ q → (s ≡ u) × (r ≡ q)
read_if n s u r q hr hq e =
    let a = read_ranges n s.boxes u.boxes _ _
    (variables_test (leads 44) false (λ x. refl) (λ x. refl) (λ x. refl) (λ x. refl) (length s.boxes) s.vars s.vars s.rows r hr)
    (variables_test (leads 44) false (λ x. refl) (λ x. refl) (λ x. refl) (λ x. refl) (length u.boxes) u.vars u.vars u.rows q hq)
    (variables_test (stops is_digit) true (λ x. refl) (λ x. refl) (λ x. refl) (λ x. refl) (length s.boxes) s.vars s.vars s.rows r hr)
    (variables_test (stops is_digit) true (λ x. refl) (λ x. refl) (λ x. refl) (λ x. refl) (length u.boxes) u.vars u.vars u.rows q hq)
    (append_cancel_left (codes "if ") _ _ (sym (if_is n s r) ∙ e ∙ if_is n u q)) in
    let b = read_variables (length u.boxes) s.vars u.vars (flat_map (row_text s.vars) s.rows ++ r) (flat_map (row_text u.vars) u.rows ++ q)
    (rows_test (leads_with 32 111) false (λ x. refl) (λ x. refl) (λ x. refl) s.vars s.rows r hr)
    (rows_test (leads_with 32 111) false (λ x. refl) (λ x. refl) (λ x. refl) u.vars u.rows q hq)
    (rows_test (stops is_digit) true (λ x. refl) (λ x. refl) (λ x. refl) s.vars s.rows r hr)
    (rows_test (stops is_digit) true (λ x. refl) (λ x. refl) (λ x. refl) u.vars u.rows q hq)
    (sym (ap (λ bs. variables_text (length bs) s.vars ++ (flat_map (row_text s.vars) s.rows ++ r)) (a.0)) ∙ a.1) in
    let c = read_rows u.vars s.rows u.rows r q
    (behind_test (leads_with 32 97) false (λ x. refl) (λ x. refl) r hr)
    (behind_test (leads_with 32 97) false (λ x. refl) (λ x. refl) q hq)
    (sym (ap (λ v. flat_map (row_text v) s.rows ++ r) (b.0)) ∙ b.1) in
    (same_system s u (b.0) (c.0) (a.0), c.1)

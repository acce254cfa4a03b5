-- The texts of names, accesses and right sides tell them.
use Rattle.std.proofs.Common.{◌≡◌, refl, sym, ap, ◌∙◌, ℕ, zero, suc, ◌-◌, ◌<◌, ◌≤◌, true, false, not, ◌||◌, nat_eq, nat_lt, List, [], ◌∷◌, ◌++◌, length, take, ◌⊎◌, inl, inr, arith, append_assoc}
use Rattle.std.specs.Prelude.{codes}
use Rattle.std.specs.List.{flat_map, list_all}
use Rattle.std.specs.Str.{bytes_eq}
use Rattle.std.proofs.lemmas.Bool.{and_from, and_parts, both_ways, cases_Bool, cases_order, cond-true, cond-false, eq-eqb, ltb-false, ltb-true, not-true, or_parts}
use Rattle.std.proofs.lemmas.Bool.Decides.{nat_tests}
use Rattle.std.proofs.lemmas.List.{append_cancel_left}
use Rattle.ch_affine.specs.Form.{Form}
use Rattle.ch_nest.specs.declared.nest.Access.{Access}
use Rattle.ch_nest.specs.declared.nest.ArrayDecl.{ArrayDecl}
use Rattle.ch_nest.specs.declared.nest.Sub as sub
use Rattle.ch_print.specs.Numbers.{number_text}
use Rattle.ch_print.proofs.Readback.{is_digit, read_number, same_run, stops}
use Rattle.ch_code.specs.FormText.{form_text, original}
use Rattle.ch_code.specs.BodyText.{access_text, array_text, has_other, is_own, is_plain, is_word, modular_text, nth_name, other_text, sub_text, subs_text}
use Rattle.ch_code.proofs.ReadForms.{behind_one, differ, form_stops, goes_on, read_form, starts_apart}
use Rattle.ch_code.proofs.ReadLists.{leads, read_all}
use Rattle.ch_code.proofs.Steps.{own_inside}

bracket_digit : (b : ℕ) → is_digit b ≡ true → (nat_eq 40 b || nat_eq 93 b) ≡ false
bracket_digit b h = grind (arith, nat_tests)

-- a form begins with no bracket that could stand in its place
form_first : (n : ℕ) (f : Form) (r : List ℕ) → stops (λ b. nat_eq 40 b || nat_eq 93 b) (form_text original n f ++ r) ≡ true
form_first n f r = form_stops original refl refl refl (λ b. nat_eq 40 b || nat_eq 93 b) bracket_digit refl refl refl n f r

read_sub_form : (n : ℕ) (f g : Form) (r q : List ℕ) → goes_on r ≡ false → goes_on q ≡ false → form_text original n f ++ r ≡ form_text original n g ++ q → (f ≡ g) × (r ≡ q)
read_sub_form = read_form original refl refl refl

modular_is : (form : List ℕ) (m : ℕ) (r : List ℕ) → modular_text form (suc m) ++ r ≡ codes "(" ++ (form ++ (codes ") mod " ++ (number_text (suc m) ++ r)))
modular_is form m r = simp append_assoc

read_modular : (n : ℕ) (f g : Form) (i j : ℕ) (r q : List ℕ) → modular_text (form_text original n f) i ++ 93 ∷ r ≡ modular_text (form_text original n g) j ++ 93 ∷ q
    → (f ≡ g) × (i ≡ j) × (r ≡ q)
read_modular n f g zero zero r q e = let s = read_sub_form n f g (93 ∷ r) (93 ∷ q) refl refl e in (s.0, refl, behind_one _ _ _ _ (s.1))
read_modular n f g zero (suc j) r q e = absurd (starts_apart (λ b. nat_eq 40 b || nat_eq 93 b) _ _ (form_first n f _) refl (e ∙ modular_is (form_text original n g) j (93 ∷ q)))
read_modular n f g (suc i) zero r q e = absurd (starts_apart (λ b. nat_eq 40 b || nat_eq 93 b) _ _ (form_first n g _) refl (sym e ∙ modular_is (form_text original n f) i (93 ∷ r)))
read_modular n f g (suc i) (suc j) r q e =
    let s = read_sub_form n f g (codes ") mod " ++ (number_text (suc i) ++ 93 ∷ r)) (codes ") mod " ++ (number_text (suc j) ++ 93 ∷ q)) refl refl
    (append_cancel_left (codes "(") _ _ (sym (modular_is (form_text original n f) i (93 ∷ r)) ∙ e ∙ modular_is (form_text original n g) j (93 ∷ q))) in
    let t = read_number (suc i) (suc j) (93 ∷ r) (93 ∷ q) refl refl (append_cancel_left (codes ") mod ") _ _ (s.1)) in
    (s.0, t.0, behind_one _ _ _ _ (t.1))

sub_is : (n : ℕ) (s : sub.Sub) (r : List ℕ) → sub_text n s ++ r ≡ codes "[" ++ (modular_text (form_text original n s.form) s.modulus ++ 93 ∷ r)
unfolding sub_text
sub_is n s r = simp append_assoc

same_sub : (s t : sub.Sub) → s.form ≡ t.form → s.modulus ≡ t.modulus → s ≡ t
same_sub s t f m =
    let with_form : Form → sub.Sub = λ g. record { form = g; modulus = s.modulus } in
    let with_modulus : ℕ → sub.Sub = λ k. record { form = t.form; modulus = k } in
    ap with_form f ∙ ap with_modulus m

read_sub : (n : ℕ) (s t : sub.Sub) (r q : List ℕ) → sub_text n s ++ r ≡ sub_text n t ++ q → (s ≡ t) × (r ≡ q)
read_sub n s t r q e =
    let a = read_modular n s.form t.form s.modulus t.modulus r q (append_cancel_left (codes "[") _ _ (sym (sub_is n s r) ∙ e ∙ sub_is n t q)) in
    (same_sub s t (a.0) (a.1), a.2)

sub_leads : (n : ℕ) (s : sub.Sub) (r : List ℕ) → leads 91 (sub_text n s ++ r) ≡ true
sub_leads n s r = ap (leads 91) (sub_is n s r)

-- in a subscript's place no bracket closes
modular_first : (n : ℕ) (f : Form) (m : ℕ) (r : List ℕ) → stops (nat_eq 93) (modular_text (form_text original n f) m ++ r) ≡ true
modular_first n f zero r = form_stops original refl refl refl (nat_eq 93) (λ b h. (or_parts (nat_eq 40 b) _ (bracket_digit b h)).1) refl refl refl n f r
modular_first n f (suc m) r = ap (stops (nat_eq 93)) (modular_is (form_text original n f) m r)

no_subs : (n : ℕ) (s : sub.Sub) (ss : List sub.Sub) (r q : List ℕ) → codes "[]" ++ r ≡ flat_map (sub_text n) (s ∷ ss) ++ q → ⊥
no_subs n s ss r q e =
    starts_apart (nat_eq 93) _ (93 ∷ r) (modular_first n s.form s.modulus _) refl
    (sym (append_cancel_left (codes "[") _ _ (e ∙ append_assoc (sub_text n s) (flat_map (sub_text n) ss) q ∙ sub_is n s _)))

read_subs : (n : ℕ) (ss ts : List sub.Sub) (r q : List ℕ) → leads 91 r ≡ false → leads 91 q ≡ false → subs_text n ss ++ r ≡ subs_text n ts ++ q → (ss ≡ ts) × (r ≡ q)
read_subs n [] [] r q hr hq e = (refl, append_cancel_left (codes "[]") r q e)
read_subs n [] (t ∷ ts) r q hr hq e = absurd (no_subs n t ts r q e)
read_subs n (s ∷ ss) [] r q hr hq e = absurd (no_subs n s ss q r (sym e))
read_subs n (s ∷ ss) (t ∷ ts) r q hr hq e =
    read_all (λ k. sub_text n) (λ k. flat_map (sub_text n)) (λ k. refl) (λ k x xs. refl) (leads 91) (λ t. Unit {0}) (λ k x t. sub_leads n x t) (λ k x t. tt) (λ k x y r q hr hq. read_sub n x y r q)
    0 (s ∷ ss) (t ∷ ts) r q hr hq tt tt e

subs_open : (n : ℕ) (ss : List sub.Sub) (r : List ℕ) → (x : List ℕ) × (subs_text n ss ++ r ≡ 91 ∷ x)
subs_open n [] r = (93 ∷ r, refl)
subs_open n (s ∷ ss) r = (_, append_assoc (sub_text n s) (flat_map (sub_text n) ss) r ∙ sub_is n s _)

-- names

same_bytes : (xs : List ℕ) → bytes_eq xs xs ≡ true
same_bytes [] = refl
same_bytes (x ∷ xs) = and_from _ _ (eq-eqb x x refl) (same_bytes xs)

passed : (arrays : List ArrayDecl) (name : List ℕ) (m n : ℕ) → n < m → n < length arrays → list_all (has_other name) (take m arrays) ≡ true → nth_name arrays n ≡ name → ⊥
passed [] name m n l k h e = omega arith
passed (a ∷ arrays) name zero n l k h e = omega arith
passed (a ∷ arrays) name (suc m) zero l k h e =
    both_ways _ (not-true _ ((and_parts (has_other name a) _ h).0)) (ap (λ t. bytes_eq t name) e ∙ same_bytes name)
passed (a ∷ arrays) name (suc m) (suc n) l k h e = passed arrays name m n (omega arith) (omega arith) ((and_parts (has_other name a) _ h).1) e

own_new : (arrays : List ArrayDecl) (m n : ℕ) → is_own arrays m ≡ true → is_own arrays n ≡ true → nth_name arrays n ≡ nth_name arrays m → n < m → ⊥
own_new arrays m n hm hn e l = passed arrays (nth_name arrays m) m n l (own_inside arrays n hn) ((and_parts _ _ hm).1) e

own_same : (arrays : List ArrayDecl) (m n : ℕ) → is_own arrays m ≡ true → is_own arrays n ≡ true → nth_name arrays m ≡ nth_name arrays n → m ≡ n
own_same arrays m n hm hn e = elim (cases_order m n) as (λ _. m ≡ n) [
  | inl same ↦ same
  | inr apart ↦ elim apart as (λ _. m ≡ n) [
    | inl below ↦ absurd (own_new arrays n m hn hm e below)
    | inr above ↦ absurd (own_new arrays m n hm hn (sym e) above)
  ]
]

pub plain_words : (name : List ℕ) → is_plain name ≡ true → list_all is_word name ≡ true
plain_words [] h = refl
plain_words (b ∷ bs) h = (and_parts _ _ h).1

pub plain_first : (name r : List ℕ) → is_plain name ≡ true → stops is_word (name ++ r) ≡ false
plain_first [] r h = absurd (both_ways false refl h)
plain_first (b ∷ bs) r h = ap not ((and_parts _ _ ((and_parts _ _ h).1)).0)

pub other_cases : (count n : ℕ) → ((n < count) × (other_text count n ≡ codes "#" ++ number_text n)) ⊎ ((count ≤ n) × (other_text count n ≡ codes "T:" ++ number_text (n - count)))
other_cases count n = elim (cases_Bool (nat_lt n count)) as (λ _. ((n < count) × (other_text count n ≡ codes "#" ++ number_text n)) ⊎ ((count ≤ n) × (other_text count n ≡ codes "T:" ++ number_text (n - count)))) [
  | inl below ↦ inl (ltb-true _ _ below, cond-true _ _ _ below)
  | inr past ↦ inr (ltb-false _ _ past, cond-false _ _ _ past)
]

pub named : (r t u : List ℕ) → t ≡ u → t ++ r ≡ u ++ r
named r t u e = ap (λ x. x ++ r) e

read_other : (count m n : ℕ) (r q : List ℕ) → stops is_digit r ≡ true → stops is_digit q ≡ true → other_text count m ++ r ≡ other_text count n ++ q → (m ≡ n) × (r ≡ q)
read_other count m n r q hr hq e = elim (other_cases count m) as (λ _. (m ≡ n) × (r ≡ q)) [
  | inl x ↦ elim (other_cases count n) as (λ _. (m ≡ n) × (r ≡ q)) [
    | inl y ↦ read_number m n r q hr hq (append_cancel_left (codes "#") _ _ (sym (named r _ _ (x.1)) ∙ e ∙ named q _ _ (y.1)))
    | inr y ↦ absurd (differ 0 _ _ refl (sym (named r _ _ (x.1)) ∙ e ∙ named q _ _ (y.1)))
  ]
  | inr x ↦ elim (other_cases count n) as (λ _. (m ≡ n) × (r ≡ q)) [
    | inl y ↦ absurd (differ 0 _ _ refl (sym (named r _ _ (x.1)) ∙ e ∙ named q _ _ (y.1)))
    | inr y ↦
        let s = read_number (m - count) (n - count) r q hr hq (append_cancel_left (codes "T:") _ _ (sym (named r _ _ (x.1)) ∙ e ∙ named q _ _ (y.1))) in
        (omega (arith, s.0, x.0, y.0), s.1)
  ]
]

pub own_cases : (arrays : List ArrayDecl) (n : ℕ) → ((is_own arrays n ≡ true) × (array_text arrays n ≡ nth_name arrays n)) ⊎ (array_text arrays n ≡ other_text (length arrays) n)
unfolding array_text
own_cases arrays n = elim (cases_Bool (is_own arrays n)) as (λ _. ((is_own arrays n ≡ true) × (array_text arrays n ≡ nth_name arrays n)) ⊎ (array_text arrays n ≡ other_text (length arrays) n)) [
  | inl own ↦ inl (own, cond-true _ _ _ own)
  | inr other ↦ inr (cond-false _ _ _ other)
]

pub own_plain : (arrays : List ArrayDecl) (n : ℕ) → is_own arrays n ≡ true → is_plain (nth_name arrays n) ≡ true
own_plain arrays n h = (and_parts _ _ h).0

-- an array's own name isn't what another is called by
pub own_apart : (name : List ℕ) (count n : ℕ) (x q : List ℕ) → is_plain name ≡ true → name ++ 91 ∷ x ≡ other_text count n ++ q → ⊥
own_apart name count n x q h e = elim (other_cases count n) as (λ _. ⊥) [
  | inl y ↦ starts_apart is_word (35 ∷ (number_text n ++ q)) _ refl (plain_first name (91 ∷ x) h) (sym (e ∙ named q _ _ (y.1)))
  | inr y ↦
      let s = same_run is_word name (84 ∷ []) (91 ∷ x) (58 ∷ (number_text (n - count) ++ q)) (plain_words name h) refl refl refl (e ∙ named q _ _ (y.1)) in
      differ 0 _ _ refl (s.1)
]

read_array : (arrays : List ArrayDecl) (m n : ℕ) (r q : List ℕ) → array_text arrays m ++ 91 ∷ r ≡ array_text arrays n ++ 91 ∷ q → (m ≡ n) × (r ≡ q)
read_array arrays m n r q e = elim (own_cases arrays m) as (λ _. (m ≡ n) × (r ≡ q)) [
  | inl x ↦ elim (own_cases arrays n) as (λ _. (m ≡ n) × (r ≡ q)) [
    | inl y ↦
        let s = same_run is_word (nth_name arrays m) (nth_name arrays n) (91 ∷ r) (91 ∷ q) (plain_words (nth_name arrays m) (own_plain arrays m (x.0))) (plain_words (nth_name arrays n) (own_plain arrays n (y.0))) refl refl
        (sym (named (91 ∷ r) _ _ (x.1)) ∙ e ∙ named (91 ∷ q) _ _ (y.1)) in
        (own_same arrays m n (x.0) (y.0) (s.0), behind_one _ _ _ _ (s.1))
    | inr y ↦ absurd (own_apart (nth_name arrays m) (length arrays) n r (91 ∷ q) (own_plain arrays m (x.0)) (sym (named (91 ∷ r) _ _ (x.1)) ∙ e ∙ named (91 ∷ q) _ _ y))
  ]
  | inr x ↦ elim (own_cases arrays n) as (λ _. (m ≡ n) × (r ≡ q)) [
    | inl y ↦ absurd (own_apart (nth_name arrays n) (length arrays) m q (91 ∷ r) (own_plain arrays n (y.0)) (sym (sym (named (91 ∷ r) _ _ x) ∙ e ∙ named (91 ∷ q) _ _ (y.1))))
    | inr y ↦
        let s = read_other (length arrays) m n (91 ∷ r) (91 ∷ q) refl refl (sym (named (91 ∷ r) _ _ x) ∙ e ∙ named (91 ∷ q) _ _ y) in
        (s.0, behind_one _ _ _ _ (s.1))
  ]
]

same_access : (a b : Access) → a.array ≡ b.array → a.subs ≡ b.subs → a ≡ b
same_access a b n s =
    let with_array : ℕ → Access = λ k. record { array = k; subs = a.subs } in
    let with_subs : List sub.Sub → Access = λ t. record { array = b.array; subs = t } in
    ap with_array n ∙ ap with_subs s

pub access_is : (arrays : List ArrayDecl) (n : ℕ) (a : Access) (r : List ℕ) → (x : List ℕ) × ((access_text arrays n a ++ r ≡ array_text arrays a.array ++ 91 ∷ x) × (subs_text n a.subs ++ r ≡ 91 ∷ x))
unfolding access_text
access_is arrays n a r =
    let o = subs_open n a.subs r in
    (o.0, (append_assoc (array_text arrays a.array) (subs_text n a.subs) r ∙ ap (λ t. array_text arrays a.array ++ t) (o.1), o.1))

pub read_access : (arrays : List ArrayDecl) (n : ℕ) (a b : Access) (r q : List ℕ) → leads 91 r ≡ false → leads 91 q ≡ false → access_text arrays n a ++ r ≡ access_text arrays n b ++ q
    → (a ≡ b) × (r ≡ q)
read_access arrays n a b r q hr hq e =
    let x = access_is arrays n a r in
    let y = access_is arrays n b q in
    let s = read_array arrays a.array b.array (x.0) (y.0) (sym (x.1.0) ∙ e ∙ y.1.0) in
    let t = read_subs n a.subs b.subs r q hr hq (x.1.1 ∙ ap (λ z. 91 ∷ z) (s.1) ∙ sym (y.1.1)) in
    (same_access a b (s.0) (t.0), t.1)

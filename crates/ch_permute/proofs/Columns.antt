-- The coefficients of the changed forms, variable by variable.
use Rattle.std.proofs.Common.{◌≡◌, ◌≢◌, refl, sym, ap, ◌∙◌, ℕ, zero, suc, ◌+◌, ◌-◌, ◌<◌, ◌≤◌, ℤ, pos, ◌+ℤ◌, ◌-ℤ◌, ◌*ℤ◌, neg_ℤ, List, [], ◌∷◌, ◌++◌, map, length, get_or, set, ◌⊎◌, inl, inr, arith}
use Rattle.std.proofs.lemmas.Int.{ints}
use Rattle.std.proofs.lemmas.Bool.{cases_lt}
use Rattle.std.proofs.lemmas.List.{ext_get_or, get_or-map, length-append, length-map, map-set}
use Rattle.std.proofs.lemmas.List.FromFn.{length-map-range_with_len, get_or-map-range_with_len}
use Rattle.ch_affine.specs.Affine.{dot}
use Rattle.ch_affine.specs.Form.{Form}
use Rattle.ch_moved.specs.Spread.{column, constants}
use Rattle.ch_permute.specs.Lowered.{less, minus_forms}
use Rattle.ch_permute.specs.Turned.{Turns, turned_forms}
use Rattle.ch_space.specs.Built.{unit, zeros}
use Rattle.ch_moved.proofs.Values.{dot_nothing, dot_pick, dot_set, length_zeros, unit_other, unit_same, zero_at}

pub same_or_not : (j k : ℕ) → (j ≡ k) ⊎ (j ≢ k)
same_or_not j k = elim (cases_lt j k) [
  | inl a ↦ inr (λ e. omega arith)
  | inr a ↦ elim (cases_lt k j) [ inl b ↦ inr (λ e. omega arith) | inr b ↦ inl (omega arith) ]
]

pub length_unit : (before after : ℕ) → length (zeros before ++ pos 1 ∷ zeros after) ≡ before + (after + 1)
length_unit before after =
    let a = length-append (zeros before) (pos 1 ∷ zeros after) in
    let b = length_zeros before in
    let c = length_zeros after in
    omega arith

pub forms_count : (t : ℕ → ℕ) (n : ℕ) → length (turned_forms t n) ≡ n
forms_count t n = length-map-range_with_len (λ k. unit (t k) (n - 1 - t k)) 0 n

pub form_at : (t : ℕ → ℕ) (n k : ℕ) → k < n → get_or (turned_forms t n) k (unit 0 0) ≡ unit (t k) (n - 1 - t k)
form_at t n k l = get_or-map-range_with_len (λ k. unit (t k) (n - 1 - t k)) 0 n k k (unit 0 0) l (omega arith)

-- variable j is that of one form alone
pub column_turned : (s t : ℕ → ℕ) (n j : ℕ) → j < n → Turns n s t → column j (turned_forms t n) ≡ zeros (s j) ++ pos 1 ∷ zeros (n - 1 - s j)
column_turned s t n j l turns =
    let m = forms_count t n in
    let c = length-map (turned_forms t n) (λ g. get_or g.coefs j (pos 0)) in
    let b = turns.below j l in
    let u = length_unit (s j) (n - 1 - s j) in
    ext_get_or (pos 0) (column j (turned_forms t n)) (zeros (s j) ++ pos 1 ∷ zeros (n - 1 - s j)) (omega arith) (λ i h.
    let k : i < n = omega arith in
    get_or-map (λ g. get_or g.coefs j (pos 0)) (turned_forms t n) i (unit 0 0) (pos 0) (omega arith)
    ∙ ap (λ g. get_or g.coefs j (pos 0)) (form_at t n i k)
    ∙ elim (same_or_not i (s j)) as (λ _. get_or (unit (t i) (n - 1 - t i)).coefs j (pos 0) ≡ get_or (zeros (s j) ++ pos 1 ∷ zeros (n - 1 - s j)) i (pos 0)) [
      | inl e ↦
          let f : j ≡ t i = sym (turns.back j) ∙ ap t (sym e) in
          unit_same (t i) (n - 1 - t i) j f ∙ sym (unit_same (s j) (n - 1 - s j) i e)
      | inr e ↦
          let f : j ≢ t i = λ q. e (sym (turns.there i) ∙ ap s (sym q)) in
          unit_other (t i) (n - 1 - t i) j f ∙ sym (unit_other (s j) (n - 1 - s j) i e)
    ])

pub constants_turned : (t : ℕ → ℕ) (n : ℕ) → constants (turned_forms t n) ≡ zeros n
constants_turned t n =
    let m = forms_count t n in
    let c = length-map (turned_forms t n) (λ g. g.constant) in
    ext_get_or (pos 0) (constants (turned_forms t n)) (zeros n) (omega (arith, length_zeros n)) (λ i h.
    let k : i < n = omega arith in
    get_or-map (λ g. g.constant) (turned_forms t n) i (unit 0 0) (pos 0) (omega arith)
    ∙ ap (λ g. g.constant) (form_at t n i k)
    ∙ sym (zero_at n i))

itself : (n : ℕ) → Turns n (λ j. j) (λ j. j)
itself n = record { below = λ k l. l; below_too = λ k l. l; there = λ k. refl; back = λ k. refl }

unit_turned : (before after j other : ℕ) → get_or (zeros before ++ pos 1 ∷ zeros after) j (pos 0) ≡ get_or (zeros j ++ pos 1 ∷ zeros other) before (pos 0)
unit_turned before after j other = elim (same_or_not j before) [
  | inl e ↦ unit_same before after j e ∙ sym (unit_same j other before (sym e))
  | inr e ↦ unit_other before after j e ∙ sym (unit_other j other before (λ q. e (sym q)))
]

-- the coefficients of a form that is subtracted from one variable
less_at : (cs : List ℤ) (gap after j other k : ℕ) → length cs + gap ≡ k
    → get_or (map neg_ℤ cs ++ (zeros gap ++ pos 1 ∷ zeros after)) j (pos 0) ≡ get_or (zeros j ++ pos 1 ∷ zeros other) k (pos 0) -ℤ get_or cs j (pos 0)
less_at [] gap after j other k e =
    let f : gap ≡ k = omega arith in
    let u = unit_turned gap after j other ∙ ap (λ n. get_or (zeros j ++ pos 1 ∷ zeros other) n (pos 0)) f in
    omega (arith, ints)
less_at (c ∷ cs) gap after zero other k e = by k (omega arith)
  where
    by : (k : ℕ) → 0 < k → neg_ℤ c ≡ get_or (pos 1 ∷ zeros other) k (pos 0) -ℤ c
    by zero l = absurd (omega arith)
    by (suc k) l = omega (arith, ints, zero_at other k)
less_at (c ∷ cs) gap after (suc j) other zero e = absurd (omega arith)
less_at (c ∷ cs) gap after (suc j) other (suc k) e = less_at cs gap after j other k (omega arith)

-- what a variable comes to
pub dot_column_minus : (cs : List ℤ) (f : Form) (k n j : ℕ) → j < n → k < n → length f.coefs ≤ k
    → dot cs (column j (minus_forms f k n)) ≡ get_or cs j (pos 0) +ℤ get_or cs k (pos 0) *ℤ neg_ℤ (get_or f.coefs j (pos 0))
dot_column_minus cs f k n j l m h =
    let gap = k - length f.coefs in
    let e = map-set (λ g. get_or g.coefs j (pos 0)) (turned_forms (λ i. i) n) k (less f gap (n - 1 - k)) in
    let c = column_turned (λ i. i) (λ i. i) n j l (itself n) in
    let u = length_unit j (n - 1 - j) in
    let v = get_or (less f gap (n - 1 - k)).coefs j (pos 0) in
    let a = less_at f.coefs gap (n - 1 - k) j (n - 1 - j) k (omega arith) in
    let s = dot_set cs (zeros j ++ pos 1 ∷ zeros (n - 1 - j)) k v (omega arith) in
    let p = dot_pick cs j (n - 1 - j) in
    let w : v -ℤ get_or (zeros j ++ pos 1 ∷ zeros (n - 1 - j)) k (pos 0) ≡ neg_ℤ (get_or f.coefs j (pos 0)) = omega (arith, ints) in
    ap (dot cs) e ∙ ap (λ xs. dot cs (set xs k v)) c ∙ s ∙ ap (λ z. z +ℤ get_or cs k (pos 0) *ℤ (v -ℤ get_or (zeros j ++ pos 1 ∷ zeros (n - 1 - j)) k (pos 0))) p
    ∙ ap (λ z. get_or cs j (pos 0) +ℤ get_or cs k (pos 0) *ℤ z) w

pub dot_constants_minus : (cs : List ℤ) (f : Form) (k n : ℕ) → k < n → dot cs (constants (minus_forms f k n)) ≡ get_or cs k (pos 0) *ℤ neg_ℤ f.constant
dot_constants_minus cs f k n l =
    let gap = k - length f.coefs in
    let e = map-set (λ g. g.constant) (turned_forms (λ i. i) n) k (less f gap (n - 1 - k)) in
    let c = constants_turned (λ i. i) n in
    let z = length_zeros n in
    let s = dot_set cs (zeros n) k (neg_ℤ f.constant) (omega arith) in
    let p = dot_nothing cs n in
    let w : neg_ℤ f.constant -ℤ get_or (zeros n) k (pos 0) ≡ neg_ℤ f.constant = omega (arith, ints, zero_at n k) in
    let t = ap (λ z. get_or cs k (pos 0) *ℤ z) w in
    ap (dot cs) e ∙ ap (λ xs. dot cs (set xs k (neg_ℤ f.constant))) c ∙ s ∙ omega (arith, ints)

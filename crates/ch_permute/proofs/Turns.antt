-- An order of levels is a permutation: what it takes from each place, and where each comes to.
use Rattle.std.proofs.Common.{◌≡◌, refl, sym, ap, ◌∙◌, subst, ℕ, zero, suc, ◌+◌, ◌-◌, ◌<◌, ◌≤◌, ℤ, pos, negsuc, Bool, true, false, List, [], ◌∷◌, length, get_or, ◌⊎◌, inl, inr, ltb, int_eq, arith}
use Rattle.std.specs.List.{list_all, list_any, range_with_len}
use Rattle.std.proofs.lemmas.Int.{ints}
use Rattle.std.proofs.lemmas.Bool.{both_ways, and_parts, or_cases, cases_lt}
use Rattle.ch_timed.specs.Members.{In}
use Rattle.ch_moved.specs.Arguments.{natural}
use Rattle.ch_permute.specs.Permuted.{is_permutation, last_from, moving}
use Rattle.ch_permute.specs.Turned.{Turns, place, source, target}

-- the numbers without the one at a place
without : ℕ → List ℤ → List ℤ
without k [] = []
without zero (x ∷ xs) = xs
without (suc k) (x ∷ xs) = x ∷ without k xs

length_without : (k : ℕ) (xs : List ℤ) → k < length xs → length xs ≡ suc (length (without k xs))
unfolding without
length_without k [] l = absurd (omega arith)
length_without zero (x ∷ xs) l = refl
length_without (suc k) (x ∷ xs) l = ap suc (length_without k xs (omega arith))

in_without : (k : ℕ) (xs : List ℤ) (p : ℤ) → In p xs → (get_or xs k (pos 0) ≡ p) ⊎ In p (without k xs)
unfolding without
in_without k [] p i = absurd i
in_without zero (x ∷ xs) p (inl e) = inl e
in_without zero (x ∷ xs) p (inr i) = inr i
in_without (suc k) (x ∷ xs) p (inl e) = inr (inl e)
in_without (suc k) (x ∷ xs) p (inr i) = elim (in_without k xs p i) as (λ _. (get_or xs k (pos 0) ≡ p) ⊎ In p (x ∷ without k xs)) [ inl e ↦ inl e | inr j ↦ inr (inr j) ]

at_without : (k j : ℕ) (xs : List ℤ) → j < k → j < length xs → In (get_or xs j (pos 0)) (without k xs)
unfolding without
at_without k j [] l h = absurd (omega arith)
at_without zero j (x ∷ xs) l h = absurd (omega arith)
at_without (suc k) zero (x ∷ xs) l h = inl refl
at_without (suc k) (suc j) (x ∷ xs) l h = inr (at_without k j xs (omega arith) (omega arith))

place_of : (xs : List ℤ) (p : ℤ) → In p xs → (k : ℕ) × (k < length xs) × (get_or xs k (pos 0) ≡ p)
place_of [] p i = absurd i
place_of (x ∷ xs) p (inl e) = (0, omega arith, e)
place_of (x ∷ xs) p (inr i) = let r = place_of xs p i in (suc r.0, omega arith, r.2)

same_level : (i n : ℕ) → pos (suc n) ≡ pos (suc i) → i < n → ⊥
same_level i n e l = let f : n ≡ i = cc in omega arith

-- so many different numbers need so many places
pub enough : (n : ℕ) (xs : List ℤ) → ((i : ℕ) → i < n → In (pos (suc i)) xs) → n ≤ length xs
enough zero xs h = omega arith
enough (suc n) xs h =
    let k = place_of xs (pos (suc n)) (h n (omega arith)) in
    let e = enough n (without k.0 xs) (λ i l. elim (in_without k.0 xs (pos (suc i)) (h i (omega arith))) as (λ _. In (pos (suc i)) (without k.0 xs)) [
      | inl s ↦ absurd (same_level i n (sym k.2 ∙ s) l)
      | inr j ↦ j
    ]) in
    let f = length_without k.0 xs k.1 in
    omega arith

-- A level of an order
pub record IsOrder (order : List ℤ) : Type 0 where
  pub has : (i : ℕ) → i < length order → In (pos (suc i)) order

same_ints : (x y : ℤ) → int_eq x y ≡ true → x ≡ y
same_ints x y t = grind (arith, ints)

ints_same : (x : ℤ) → int_eq x x ≡ true
ints_same x = grind (arith, ints)

any_in : (p : ℤ) (xs : List ℤ) → list_any (int_eq p) xs ≡ true → In p xs
any_in p [] e = absurd (both_ways _ refl e)
any_in p (x ∷ xs) e = elim (or_cases (int_eq p x) _ e) [ inl f ↦ inl (sym (same_ints p x f)) | inr f ↦ inr (any_in p xs f) ]

all_range : (t : ℕ → Bool) (n a : ℕ) → list_all t (range_with_len a n) ≡ true → (i : ℕ) → i < n → t (a + i) ≡ true
all_range t zero a e i l = absurd (omega arith)
all_range t (suc n) a e zero l = let f : a + 0 ≡ a = omega arith in ap t f ∙ (and_parts _ _ e).0
all_range t (suc n) a e (suc i) l = let f : a + suc i ≡ (a + 1) + i = omega arith in ap t f ∙ all_range t n (a + 1) (and_parts _ _ e).1 i (omega arith)

pub order_of : (order : List ℤ) → is_permutation order ≡ true → IsOrder order
order_of order e = record {
  has = λ i l.
      let h = all_range (λ level. list_any (int_eq (pos level)) order) (length order) 1 e i l in
      let f : 1 + i ≡ suc i = omega arith in
      any_in (pos (suc i)) order (ap (λ n. list_any (int_eq (pos n)) order) (sym f) ∙ h);
}

found_by : (b : Bool) (p x : ℤ) (xs : List ℤ) → int_eq p x ≡ b → In p (x ∷ xs) → (In p xs → (place p xs < length xs) × (get_or xs (place p xs) (pos 0) ≡ p))
    → (place p (x ∷ xs) < length (x ∷ xs)) × (get_or (x ∷ xs) (place p (x ∷ xs)) (pos 0) ≡ p)
found_by true p x xs e i more = rw e (omega arith, sym (same_ints p x e))
found_by false p x xs e (inl k) more = absurd (both_ways _ e (subst (λ z. int_eq p z ≡ true) (sym k) (ints_same p)))
found_by false p x xs e (inr j) more = let r = more j in rw e (omega arith, r.1)

place_found : (p : ℤ) (xs : List ℤ) → In p xs → (place p xs < length xs) × (get_or xs (place p xs) (pos 0) ≡ p)
place_found p [] i = absurd i
place_found p (x ∷ xs) i = found_by (int_eq p x) p x xs refl i (place_found p xs)

module _ (order : List ℤ) (is : IsOrder order) where
  -- each place is needed
  needed : (k : ℕ) → k < length order → ((i : ℕ) → i < length order → get_or order k (pos 0) ≡ pos (suc i) → In (pos (suc i)) (without k order)) → ⊥
  needed k l h =
      let e = enough (length order) (without k order) (λ i m. elim (in_without k order (pos (suc i)) (is.has i m)) as (λ _. In (pos (suc i)) (without k order)) [
        | inl s ↦ h i m s
        | inr j ↦ j
      ]) in
      let f = length_without k order l in
      omega arith

  pub differ : (j k : ℕ) → j < k → k < length order → get_or order j (pos 0) ≡ get_or order k (pos 0) → ⊥
  differ j k l h e = needed k h (λ i m s. subst (λ z. In z (without k order)) (e ∙ s) (at_without k j order l (omega arith)))

  not_there : (k : ℕ) → k < length order → ((i : ℕ) → i < length order → get_or order k (pos 0) ≡ pos (suc i) → ⊥) → ⊥
  not_there k l h = needed k l (λ i m s. absurd (h i m s))

  level_by : (k : ℕ) → k < length order → (z : ℤ) → get_or order k (pos 0) ≡ z → (i : ℕ) × (i < length order) × (get_or order k (pos 0) ≡ pos (suc i))
  level_by k l (negsuc n) e = absurd (not_there k l (λ i m s. cc))
  level_by k l (pos zero) e = absurd (not_there k l (λ i m s. no i (sym e ∙ s)))
    where
      no : (i : ℕ) → pos zero ≡ pos (suc i) → ⊥
      no i q = let f : 0 ≡ suc i = cc in omega arith
  level_by k l (pos (suc i)) e = elim (cases_lt i (length order)) [
    | inl m ↦ (i, m, e)
    | inr m ↦ absurd (not_there k l (λ j h s. no j h (sym e ∙ s) m))
  ]
    where
      no : (j : ℕ) → j < length order → pos (suc i) ≡ pos (suc j) → length order ≤ i → ⊥
      no j h q m = let f : i ≡ j = cc in omega arith

  -- each number of an order is a level
  pub level_at : (k : ℕ) → k < length order → (i : ℕ) × (i < length order) × (get_or order k (pos 0) ≡ pos (suc i))
  level_at k l = level_by k l (get_or order k (pos 0)) refl

  same_place : (j k : ℕ) → j < length order → k < length order → get_or order j (pos 0) ≡ get_or order k (pos 0) → j ≡ k
  same_place j k l h e = elim (cases_lt j k) [
    | inl a ↦ absurd (differ j k a h e)
    | inr a ↦ elim (cases_lt k j) [
      | inl b ↦ absurd (differ k j b l (sym e))
      | inr b ↦ omega arith
    ]
  ]

  pub source_in : (k : ℕ) → k < length order → source order k ≡ natural (get_or order k (pos 0)) - 1
  source_in k l = let t : ltb k (length order) ≡ true = grind arith in rw t

  target_in : (k : ℕ) → k < length order → target order k ≡ place (pos (suc k)) order
  target_in k l = let t : ltb k (length order) ≡ true = grind arith in rw t

  pub source_past : (k : ℕ) → length order ≤ k → source order k ≡ k
  source_past k l = let t : ltb k (length order) ≡ false = grind arith in rw t

  pub target_past : (k : ℕ) → length order ≤ k → target order k ≡ k
  target_past k l = let t : ltb k (length order) ≡ false = grind arith in rw t

  -- at any level: below the length of the order, and behind it
  source_less : (k : ℕ) → k < length order → source order k < length order
  source_less k l =
      let r = level_at k l in
      let e = source_in k l ∙ ap (λ z. natural z - 1) r.2 in
      omega arith

  target_less : (k : ℕ) → k < length order → target order k < length order
  target_less k l = let r = place_found (pos (suc k)) order (is.has k l) in let e = target_in k l in omega arith

  source_target_in : (k : ℕ) → k < length order → source order (target order k) ≡ k
  source_target_in k l =
      let r = place_found (pos (suc k)) order (is.has k l) in
      let e = source_in (target order k) (target_less k l) ∙ ap (λ n. natural (get_or order n (pos 0)) - 1) (target_in k l) ∙ ap (λ z. natural z - 1) r.1 in
      omega arith

  target_source_in : (k : ℕ) → k < length order → target order (source order k) ≡ k
  target_source_in k l =
      let r = level_at k l in
      let e : source order k ≡ r.0 = let f = source_in k l ∙ ap (λ z. natural z - 1) r.2 in omega arith in
      let t = target_in r.0 r.1 in
      let f = place_found (pos (suc r.0)) order (is.has r.0 r.1) in
      ap (target order) e ∙ t ∙ same_place (place (pos (suc r.0)) order) k f.0 l (f.1 ∙ sym r.2)

  pub source_target : (k : ℕ) → source order (target order k) ≡ k
  source_target k = elim (cases_lt k (length order)) [
    | inl l ↦ source_target_in k l
    | inr l ↦ ap (source order) (target_past k l) ∙ source_past k l
  ]

  pub target_source : (k : ℕ) → target order (source order k) ≡ k
  target_source k = elim (cases_lt k (length order)) [
    | inl l ↦ target_source_in k l
    | inr l ↦ ap (target order) (source_past k l) ∙ target_past k l
  ]

least_by : (b : Bool) (n level : ℕ) (o : ℤ) (order : List ℤ) → int_eq o (pos level) ≡ b → n ≤ level → ((m : ℕ) → m ≤ suc level → m ≤ last_from m (moving (suc level) order))
    → n ≤ last_from n (moving level (o ∷ order))
least_by true n level o order e l more = rw e (more n (omega arith))
least_by false n level o order e l more = rw e (let h = more level (omega arith) in omega arith)

last_least : (n level : ℕ) (order : List ℤ) → n ≤ level → n ≤ last_from n (moving level order)
last_least n level [] l = omega arith
last_least n level (o ∷ order) l = least_by (int_eq o (pos level)) n level o order refl l (λ m h. last_least m (suc level) order h)

stays_by : (b : Bool) (n level : ℕ) (o : ℤ) (order : List ℤ) (k : ℕ) → int_eq o (pos level) ≡ b
    → ((m j : ℕ) → last_from m (moving (suc level) order) < suc level + j → j < length order → get_or order j (pos 0) ≡ pos (suc level + j))
    → last_from n (moving level (o ∷ order)) < level + k → k < length (o ∷ order) → get_or (o ∷ order) k (pos 0) ≡ pos (level + k)
stays_by true n level o order zero e more l h = let f : level + 0 ≡ level = omega arith in same_ints o (pos level) e ∙ ap pos (sym f)
stays_by true n level o order (suc k) e more l h =
    let m : last_from n (moving (suc level) order) < level + suc k = rw e at l in
    let f : level + suc k ≡ suc level + k = omega arith in
    more n k (omega arith) (omega arith) ∙ ap pos (sym f)
stays_by false n level o order zero e more l h =
    let m : last_from level (moving (suc level) order) < level + 0 = rw e at l in
    let q = last_least level (suc level) order (omega arith) in
    absurd (omega arith)
stays_by false n level o order (suc k) e more l h =
    let m : last_from level (moving (suc level) order) < level + suc k = rw e at l in
    let f : level + suc k ≡ suc level + k = omega arith in
    more level k (omega arith) (omega arith) ∙ ap pos (sym f)

-- behind the last level that another one replaces, each stays
pub stays : (n level : ℕ) (order : List ℤ) (k : ℕ) → last_from n (moving level order) < level + k → k < length order → get_or order k (pos 0) ≡ pos (level + k)
stays n level [] k l h = absurd (omega arith)
stays n level (o ∷ order) k l h = stays_by (int_eq o (pos level)) n level o order k refl (λ m j. stays m (suc level) order j) l h

module _ (order : List ℤ) (is : IsOrder order) (first : ℕ) (more : List ℕ) (m : moving 1 order ≡ first ∷ more) (d : ℕ) (l : last_from first more ≤ d) where
  fixed : (k : ℕ) → d ≤ k → source order k ≡ k
  fixed k a = elim (cases_lt k (length order)) [
    | inl h ↦
        let e : last_from first (moving 1 order) ≡ last_from first more = ap (last_from first) m in
        let s : get_or order k (pos 0) ≡ pos (1 + k) = stays first 1 order k (omega arith) h in
        let f : source order k ≡ (1 + k) - 1 = source_in order is k h ∙ ap (λ z. natural z - 1) s in
        omega arith
    | inr h ↦ source_past order is k h
  ]

  source_below : (k : ℕ) → k < d → source order k < d
  source_below k h = elim (cases_lt (source order k) d) [
    | inl a ↦ a
    | inr a ↦
        let e : source order k ≡ k = sym (target_source order is (source order k)) ∙ ap (target order) (fixed (source order k) a) ∙ target_source order is k in
        absurd (omega arith)
  ]

  target_below : (k : ℕ) → k < d → target order k < d
  target_below k h = elim (cases_lt (target order k) d) [
    | inl a ↦ a
    | inr a ↦ let e : target order k ≡ k = sym (fixed (target order k) a) ∙ source_target order is k in absurd (omega arith)
  ]

-- an order turns the levels of each piece that is as deep as the last level that another one replaces
pub turns : (order : List ℤ) (first : ℕ) (more : List ℕ) (d : ℕ) → is_permutation order ≡ true → moving 1 order ≡ first ∷ more → last_from first more ≤ d → Turns d (source order) (target order)
turns order first more d p m l = record {
  below = source_below order (order_of order p) first more m d l;
  below_too = target_below order (order_of order p) first more m d l;
  there = source_target order (order_of order p);
  back = target_source order (order_of order p);
}

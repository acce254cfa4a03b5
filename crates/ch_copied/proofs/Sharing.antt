-- Pieces of the group, and what their vectors begin with.
use Rattle.std.proofs.Common.{◌≡◌, refl, sym, ap, ap₂, ◌∙◌, subst, ℕ, zero, suc, ◌<◌, ◌≤◌, ℤ, pos, get_or, Bool, true, false, not, ◌&&◌, ◌||◌, nat_lt, List, [], ◌∷◌, length, take, inl, inr, arith}
use Rattle.std.proofs.lemmas.Bool.{and_parts, and_from, or_cases, cases_lt}
use Rattle.std.specs.Ordering.{is_eq}
use Rattle.std.specs.Cmp.{tied_itself, int_cmp_total}
use Rattle.std.specs.Cmp.Lexicographic.{lists_total}
use Rattle.std.specs.FinMap.{slice_cmp-IsAntisymmetric, int_cmp-IsAntisymmetric}
use Rattle.ch_timed.specs.declared.element.Element.{Element}
use Rattle.ch_timed.specs.Members.{In}
use Rattle.ch_timed.specs.Timed.{is_vector, is_apart, pieces_apart}
use Rattle.ch_timed.specs.Vectors.{places, values, same_numbers, begins_with, shares}
use Rattle.ch_copied.proofs.Lists.{parts_same}
use Rattle.ch_copied.proofs.Runs.{fronted}
use Rattle.ch_order.proofs.Commutes.{is_eq_Equal}

pub numbers_are : (xs ys : List ℤ) → same_numbers xs ys ≡ true → xs ≡ ys
numbers_are xs ys h = slice_cmp-IsAntisymmetric int_cmp-IsAntisymmetric xs ys (is_eq_Equal _ h)

pub numbers_self : (xs : List ℤ) → same_numbers xs xs ≡ true
numbers_self xs = ap is_eq (tied_itself (lists_total int_cmp_total) xs)

pub are_numbers : (xs ys : List ℤ) → xs ≡ ys → same_numbers xs ys ≡ true
are_numbers xs ys h = subst (λ z. same_numbers xs z ≡ true) h (numbers_self xs)

lt_is : (m n : ℕ) → nat_lt m n ≡ true → m < n
lt_is m n h = grind arith

is_lt : (m n : ℕ) → m < n → nat_lt m n ≡ true
is_lt m n h = grind arith

pub record Shared (level : ℕ) (ours ps : List ℤ) : Type 0 where
  pub deep : level < length ours
  pub too : level < length ps
  pub same : take level ours ≡ take level ps

pub shares_is : (level : ℕ) (ours ps : List ℤ) → shares level ours ps ≡ true → Shared level ours ps
shares_is level ours ps h =
    let a = and_parts _ _ h in
    let b = and_parts _ _ a.0 in
    record { deep = lt_is _ _ b.0; too = lt_is _ _ b.1; same = numbers_are _ _ a.1 }

pub is_shares : (level : ℕ) (ours ps : List ℤ) → Shared level ours ps → shares level ours ps ≡ true
is_shares level ours ps s = and_from _ _ (and_from _ _ (is_lt _ _ s.deep) (is_lt _ _ s.too)) (are_numbers _ _ s.same)

-- a vector of the group
pub shape : (k : ℕ) (ours v : List ℤ) → is_vector v ≡ true → k < length ours → suc k < length (places v) → take (suc k) ours ≡ take (suc k) (places v)
    → (r : List ℤ) × ((v ≡ fronted (take k ours) (take k (values v)) (get_or ours k (pos 0)) r) × (length (take k (values v)) ≡ length (take k ours)))
shape k ours [] v l m e = cc
shape k [] (q ∷ w) v l m e = absurd (omega arith)
shape zero (p ∷ ps) (q ∷ []) v l m e = absurd (omega arith)
shape zero (p ∷ ps) (q ∷ x ∷ w) v l m e = (x ∷ w, (ap (λ z. z ∷ x ∷ w) (sym (parts_same p q [] [] e).0), refl))
shape (suc k) (p ∷ ps) (q ∷ []) v l m e = absurd (omega arith)
shape (suc k) (p ∷ ps) (q ∷ x ∷ w) v l m e =
    let s = parts_same p q (take (suc k) ps) (take (suc k) (places w)) e in
    let r = shape k ps w v (omega arith) (omega arith) s.1 in
    (r.0, (ap₂ (λ y z. y ∷ x ∷ z) (sym s.0) r.1.0, ap (λ n. suc n) r.1.1))

pub shape_back : (k : ℕ) (ours x r : List ℤ) → k < length ours → length x ≡ length (take k ours)
    → take (suc k) (places (fronted (take k ours) x (get_or ours k (pos 0)) r)) ≡ take (suc k) ours
shape_back k [] x r l e = absurd (omega arith)
shape_back zero (p ∷ ps) [] [] l e = refl
shape_back zero (p ∷ ps) [] (y ∷ r) l e = refl
shape_back zero (p ∷ ps) (y ∷ x) r l e = absurd (omega arith)
shape_back (suc k) (p ∷ ps) [] r l e = absurd (omega arith)
shape_back (suc k) (p ∷ ps) (y ∷ x) r l e = ap (λ z. p ∷ z) (shape_back k ps x r (omega arith) (omega arith))

pub take_all : (n : ℕ) (xs : List ℤ) → length xs ≤ n → take n xs ≡ xs
take_all n [] l = takes n
  where
    takes : (m : ℕ) → take {A = ℤ} m [] ≡ []
    takes zero = refl
    takes (suc m) = refl
take_all zero (x ∷ xs) l = absurd (omega arith)
take_all (suc n) (x ∷ xs) l = ap (λ z. x ∷ z) (take_all n xs (omega arith))

pub take_long : (n : ℕ) (xs : List ℤ) → n ≤ length xs → length (take n xs) ≡ n
take_long zero xs l = refl
take_long (suc n) [] l = absurd (omega arith)
take_long (suc n) (x ∷ xs) l = ap (λ z. suc z) (take_long n xs (omega arith))

no : (u : Bool) → not u ≡ true → u ≡ true → ⊥
no true a c = cc
no false a c = cc

one : (ps qs : List ℤ) → (same_numbers ps qs || (not (begins_with ps qs) && not (begins_with qs ps))) ≡ true
    → (begins_with ps qs ≡ true → ps ≡ qs) × (begins_with qs ps ≡ true → qs ≡ ps)
one ps qs t = elim (or_cases (same_numbers ps qs) _ t) as (λ _. (begins_with ps qs ≡ true → ps ≡ qs) × (begins_with qs ps ≡ true → qs ≡ ps)) [
  | inl s ↦ (λ _. numbers_are ps qs s, λ _. sym (numbers_are ps qs s))
  | inr n ↦ let p = and_parts _ _ n in (λ g. absurd (no _ p.0 g), λ g. absurd (no _ p.1 g))
]

apart_from : (y : Element) (ys : List Element) → is_apart (places y.vector) ys ≡ true → (z : Element) → In z ys
    → (begins_with (places y.vector) (places z.vector) ≡ true → places y.vector ≡ places z.vector) × (begins_with (places z.vector) (places y.vector) ≡ true → places z.vector ≡ places y.vector)
apart_from y [] t z m = absurd m
apart_from y (u ∷ us) t z (inl m) = subst (λ (w : Element). (begins_with (places y.vector) (places w.vector) ≡ true → places y.vector ≡ places w.vector) × (begins_with (places w.vector) (places y.vector) ≡ true → places w.vector ≡ places y.vector)) m (one (places y.vector) (places u.vector) (and_parts _ _ t).0)
apart_from y (u ∷ us) t z (inr m) = apart_from y us (and_parts _ _ t).1 z m

-- of pieces apart the places of none begin those of another
pub apart_pair : (list : List Element) → pieces_apart list ≡ true → (e f : Element) → In e list → In f list
    → begins_with (places e.vector) (places f.vector) ≡ true → places e.vector ≡ places f.vector
apart_pair [] h e f i j b = absurd i
apart_pair (x ∷ xs) h e f (inl k) (inl l) b = ap (λ (z : Element). places z.vector) (sym k ∙ l)
apart_pair (x ∷ xs) h e f (inl k) (inr j) b =
    let r = apart_from x xs (and_parts _ _ h).0 f j in
    ap (λ (z : Element). places z.vector) (sym k) ∙ r.0 (subst (λ (z : Element). begins_with (places z.vector) (places f.vector) ≡ true) (sym k) b)
apart_pair (x ∷ xs) h e f (inr i) (inr j) b = apart_pair xs (and_parts _ _ h).1 e f i j b
apart_pair (x ∷ xs) h e f (inr i) (inl l) b =
    let r = apart_from x xs (and_parts _ _ h).0 e i in
    r.1 (subst (λ (z : Element). begins_with (places e.vector) (places z.vector) ≡ true) (sym l) b) ∙ ap (λ (z : Element). places z.vector) l

-- a vector that begins as those of the group is one of theirs
pub is_shared : (k : ℕ) (ours v x r : List ℤ) → suc k < length ours → length x ≡ length (take k ours) → v ≡ fronted (take k ours) x (get_or ours k (pos 0)) r
    → (begins_with (places v) ours ≡ true → places v ≡ ours) → Shared (suc k) ours (places v)
is_shared k ours v x r l n e apart =
    let front : take (suc k) (places v) ≡ take (suc k) ours = ap (λ z. take (suc k) (places z)) e ∙ shape_back k ours x r (omega arith) n in
    record {
      deep = l;
      too = elim (cases_lt (suc k) (length (places v))) as (λ _. suc k < length (places v)) [
        | inl m ↦ m
        | inr m ↦
            let whole : places v ≡ take (suc k) ours = sym (take_all (suc k) (places v) m) ∙ front in
            let long : length (places v) ≡ suc k = ap (λ zs. length zs) whole ∙ take_long (suc k) ours (omega arith) in
            let same = apart (are_numbers _ _ (whole ∙ ap (λ n. take n ours) (sym long))) in
            let far : length (places v) ≡ length ours = ap (λ zs. length zs) same in
            absurd (omega arith)
      ];
      same = sym front;
    }

-- Tests of lists of numbers.
use Rattle.std.proofs.Common.{◌≡◌, ◌≢◌, refl, sym, ap, ap₂, ◌∙◌, ℕ, ◌+◌, ◌<◌, ◌≤◌, ℤ, pos, ◌<ℤ◌, Bool, true, false, ◌&&◌, List, [], ◌∷◌, length, map, drop, get_or, arith}
use Rattle.std.proofs.lemmas.Bool.{false_from_ne_true}
use Rattle.std.proofs.lemmas.List.{drop_more, ext_get_or, get_or-map, length-map}
use Rattle.std.specs.Ordering.{int_cmp, int_eq, is_eq, ordering_then, MatchOrdering}
use Rattle.std.specs.declared.cmp.Ordering.{Ordering}
use Rattle.std.specs.declared.cmp.Ordering.TheVariants.{Less, Equal, Greater}
use Rattle.std.specs.Cmp.{tied_itself, int_cmp_total, int_ranked}
use Rattle.std.specs.Cmp.Lexicographic.{slice_cmp, pointwise, lists_total}
use Rattle.std.specs.FinMap.{slice_cmp-IsAntisymmetric, int_cmp-IsAntisymmetric}
use Rattle.ch_timed.specs.Vectors.{same_numbers}
use Rattle.ch_order.proofs.Commutes.{is_eq_Equal}

then_eq : (o r : Ordering) → is_eq (ordering_then o r) ≡ (is_eq o && is_eq r)
then_eq Less r = refl
then_eq Equal r = refl
then_eq Greater r = refl

pub same_cons : (x y : ℤ) (xs ys : List ℤ) → same_numbers (x ∷ xs) (y ∷ ys) ≡ (int_eq x y && same_numbers xs ys)
same_cons x y xs ys = then_eq (int_cmp x y) (slice_cmp int_cmp xs ys)

pub numbers_tested : (xs ys : List ℤ) → pointwise int_eq xs ys ≡ same_numbers xs ys
numbers_tested [] [] = refl
numbers_tested [] (y ∷ ys) = refl
numbers_tested (x ∷ xs) [] = refl
numbers_tested (x ∷ xs) (y ∷ ys) = ap (λ t. int_eq x y && t) (numbers_tested xs ys) ∙ sym (same_cons x y xs ys)

pub numbers_are : (xs ys : List ℤ) → same_numbers xs ys ≡ true → xs ≡ ys
numbers_are xs ys h = slice_cmp-IsAntisymmetric int_cmp-IsAntisymmetric xs ys (is_eq_Equal _ h)

pub numbers_same : (xs ys : List ℤ) → xs ≡ ys → same_numbers xs ys ≡ true
numbers_same xs ys e = ap (same_numbers xs) (sym e) ∙ ap is_eq (tied_itself (lists_total int_cmp_total) xs)

pub numbers_told : (xs ys : List ℤ) → (pointwise int_eq xs ys ≡ true → xs ≡ ys) × (xs ≡ ys → pointwise int_eq xs ys ≡ true)
numbers_told xs ys = (λ h. numbers_are xs ys (sym (numbers_tested xs ys) ∙ h), λ e. numbers_tested xs ys ∙ numbers_same xs ys e)

-- a test that tells whether two numbers are equal
pub int_eq_by : (t : Bool) (x y : ℤ) → (t ≡ true → x ≡ y) → (x ≡ y → t ≡ true) → t ≡ int_eq x y
int_eq_by true x y f g = sym (ap (int_eq x) (sym (f refl)) ∙ ap is_eq (tied_itself int_cmp_total x))
int_eq_by false x y f g = by (int_cmp x y) (int_ranked x y (int_cmp x y) refl)
  where
    by : (o : Ordering) → MatchOrdering o (x <ℤ y) (x ≡ y) (y <ℤ x) → false ≡ is_eq o
    by Less m = refl
    by Equal m = g m
    by Greater m = refl

-- lists of one length are equal where they have the same elements
pub elements_same : {X : Type 0} (xs ys : List X) (n : ℕ) → length xs ≡ length ys → length xs ≤ n → ((k : ℕ) (d : X) → k < n → get_or xs k d ≡ get_or ys k d) → xs ≡ ys
elements_same [] [] n e l h = refl
elements_same [] (y ∷ ys) n e l h = absurd (omega arith)
elements_same (x ∷ xs) ys n e l h = ext_get_or x (x ∷ xs) ys e (λ k b. h k x (omega arith))

-- lists of numbers, one number after another

pub numbers_apart : (xs ys : List ℤ) → length xs ≢ length ys → same_numbers xs ys ≡ false
numbers_apart xs ys n = false_from_ne_true _ (λ h. n (ap length (numbers_are xs ys h)))

numbers_on : (xs ys : List ℤ) (k : ℕ) → k < length xs → k < length ys
    → same_numbers (drop k xs) (drop k ys) ≡ (int_eq (get_or xs k (pos 0)) (get_or ys k (pos 0)) && same_numbers (drop (k + 1) xs) (drop (k + 1) ys))
numbers_on xs ys k h g =
    ap₂ same_numbers (drop_more xs k (pos 0) h) (drop_more ys k (pos 0) g)
    ∙ same_cons (get_or xs k (pos 0)) (get_or ys k (pos 0)) (drop (k + 1) xs) (drop (k + 1) ys)

-- the values of two lists, from the k-th on
module _ {X : Type 0} (f g : X → ℤ) (xs ys : List X) (k : ℕ) where
  values_on : (x y : X) → k < length xs → k < length ys → ((d : X) → x ≡ get_or xs k d) → ((d : X) → y ≡ get_or ys k d)
      → same_numbers (drop k (map f xs)) (drop k (map g ys)) ≡ (int_eq (f x) (g y) && same_numbers (drop (k + 1) (map f xs)) (drop (k + 1) (map g ys)))
  values_on x y h l a b =
      let m : k < length (map f xs) = rw length-map h in
      let n : k < length (map g ys) = rw length-map l in
      numbers_on (map f xs) (map g ys) k m n
      ∙ ap₂ (λ u v. int_eq u v && same_numbers (drop (k + 1) (map f xs)) (drop (k + 1) (map g ys)))
      (get_or-map f xs k x (pos 0) h ∙ ap f (sym (a x))) (get_or-map g ys k y (pos 0) l ∙ ap g (sym (b y)))

  -- where they differ there, the lists do
  pub values_differ : (x y : X) → k < length xs → k < length ys → ((d : X) → x ≡ get_or xs k d) → ((d : X) → y ≡ get_or ys k d) → int_eq (f x) (g y) ≡ false
      → same_numbers (drop k (map f xs)) (drop k (map g ys)) ≡ same_numbers (map f xs) (map g ys) → same_numbers (map f xs) (map g ys) ≡ false
  values_differ x y h l a b e here =
      sym here ∙ values_on x y h l a b ∙ ap (λ t. t && same_numbers (drop (k + 1) (map f xs)) (drop (k + 1) (map g ys))) e

  -- and where they are the same, the rest tells
  pub values_same : (x y : X) (n : ℕ) → n ≡ k + 1 → k < length xs → k < length ys → ((d : X) → x ≡ get_or xs k d) → ((d : X) → y ≡ get_or ys k d) → int_eq (f x) (g y) ≡ true
      → same_numbers (drop k (map f xs)) (drop k (map g ys)) ≡ same_numbers (map f xs) (map g ys)
      → same_numbers (drop n (map f xs)) (drop n (map g ys)) ≡ same_numbers (map f xs) (map g ys)
  values_same x y n m h l a b e here =
      ap (λ i. same_numbers (drop i (map f xs)) (drop i (map g ys))) m
      ∙ sym (values_on x y h l a b ∙ ap (λ t. t && same_numbers (drop (k + 1) (map f xs)) (drop (k + 1) (map g ys))) e) ∙ here

pub lengths_differ : {X : Type 0} (f g : X → ℤ) (xs ys : List X) → length xs ≢ length ys → same_numbers (map f xs) (map g ys) ≡ false
lengths_differ f g xs ys n =
    let long : length (map f xs) ≡ length xs = rw length-map refl in
    let other : length (map g ys) ≡ length ys = rw length-map refl in
    numbers_apart (map f xs) (map g ys) (λ e. n (sym long ∙ e ∙ other))

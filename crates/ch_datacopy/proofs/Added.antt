-- Adding the different members one after another makes the list of the different members.
use Rattle.std.proofs.Common.{◌≡◌, refl, sym, ap, ap₂, ◌∙◌, subst, ℕ, zero, suc, ◌+◌, ◌<◌, ℤ, arith, Bool, true, false, not, cond, ◌&&◌, ◌||◌, List, [], ◌∷◌, ◌++◌, get_or, length, take, ◌⊎◌, inl, inr, append_assoc, append-nil}
use Rattle.std.specs.List.{filter, list_any}
use Rattle.std.specs.Ordering.{int_eq}
use Rattle.std.proofs.lemmas.Int.{ints}
use Rattle.std.proofs.lemmas.Bool.{and_from, and_parts, cases_Bool, eq-eqb, eqb-true}
use Rattle.std.proofs.lemmas.List.{take_more}
use Rattle.std.proofs.lemmas.List.Elements.{filter-append}
use Rattle.std.proofs.lemmas.List.Folds.{list_any-append}
use Rattle.ch_affine.specs.Form.{Form}
use Rattle.ch_copied.specs.Accesses.{different, names, read_accesses}
use Rattle.ch_copied.proofs.Lists.{in_append}
use Rattle.ch_copied.proofs.Runs.{eq_is}
use Rattle.ch_copied.proofs.Sharing.{numbers_are, numbers_self}
use Rattle.ch_datacopy.specs.Adding.{added, put_new}
use Rattle.ch_nest.specs.declared.nest.Access.{Access}
use Rattle.ch_nest.specs.declared.nest.Body.{Body}
use Rattle.ch_nest.specs.declared.nest.Expr.{Expr}
use Rattle.ch_nest.specs.declared.nest.Expr.TheVariants.{Add, Mul, Sub}
use Rattle.ch_nest.specs.declared.nest.Sub as subscript
use Rattle.ch_order.specs.Accesses.{same_access}
use Rattle.ch_order.proofs.Accesses.{same_access_is, same_access_self}
use Rattle.ch_space.proofs.Membership.{any_from, any_in}
use Rattle.ch_timed.specs.Conflict.{reads}
use Rattle.ch_timed.specs.Members.{In}
use Rattle.ch_timed.proofs.Rolls.{reads_add, reads_mul, reads_sub}

-- whether the access is there

abbrev known : List Access → Access → Bool
known kept a = list_any (λ b. same_access b a) kept

pub known_in : (kept : List Access) (a : Access) → known kept a ≡ true → In a kept
known_in kept a h =
    let x = any_from (λ b. same_access b a) kept h in
    subst (λ z. In z kept) (same_access_is x.0 a x.1.1) x.1.0

pub in_known : (kept : List Access) (a : Access) → In a kept → known kept a ≡ true
in_known kept a i = any_in (λ b. same_access b a) kept a i (same_access_self a)

-- one access more

put_known : (kept : List Access) (a : Access) → known kept a ≡ true → put_new kept a ≡ kept
put_known kept a h = rw h refl

put_unknown : (kept : List Access) (a : Access) → known kept a ≡ false → put_new kept a ≡ kept ++ a ∷ []
put_unknown kept a h = rw h refl

unknown : (kept : List Access) (a : Access) → (In a kept → ⊥) → known kept a ≡ false
unknown kept a none = elim (cases_Bool (known kept a)) as (λ _. known kept a ≡ false) [
  | inl h ↦ absurd (none (known_in kept a h))
  | inr h ↦ h
]

pub added_there : (kept : List Access) (a : Access) → In a kept → added kept (a ∷ []) ≡ kept
added_there kept a i = put_known kept a (in_known kept a i)

pub added_new : (kept : List Access) (a : Access) → (In a kept → ⊥) → added kept (a ∷ []) ≡ kept ++ a ∷ []
added_new kept a none = put_unknown kept a (unknown kept a none)

pub added_append : (kept xs ys : List Access) → added kept (xs ++ ys) ≡ added (added kept xs) ys
added_append kept [] ys = refl
added_append kept (x ∷ xs) ys = added_append (put_new kept x) xs ys

-- what a right side of two parts reads
pub reads_two : (e x y : Expr) → (e ≡ Add x y) ⊎ ((e ≡ Sub x y) ⊎ (e ≡ Mul x y)) → reads e ≡ reads x ++ reads y
reads_two e x y (inl h) = ap reads h ∙ reads_add x y
reads_two e x y (inr (inl h)) = ap reads h ∙ reads_sub x y
reads_two e x y (inr (inr h)) = ap reads h ∙ reads_mul x y

-- one access, of the array or of another one
pub one_named : (array : ℕ) (a : Access) → a.array ≡ array → filter (names array) (a ∷ []) ≡ a ∷ []
one_named array a e = ap (λ b. cond b (a ∷ []) []) (eq-eqb a.array array e)

pub added_none : (array : ℕ) (kept : List Access) (a : Access) → (a.array ≡ array → ⊥) → added kept (filter (names array) (a ∷ [])) ≡ kept
added_none array kept a n = elim (cases_Bool (names array a)) as (λ _. added kept (filter (names array) (a ∷ [])) ≡ kept) [
  | inl h ↦ absurd (n (eqb-true a.array array h))
  | inr h ↦ ap (λ b. added kept (cond b (a ∷ []) [])) h
]

-- reading a right side of two parts
pub added_both : (array : ℕ) (kept mid xs ys new : List Access) → mid ≡ added kept (filter (names array) xs) → new ≡ added mid (filter (names array) ys)
    → new ≡ added kept (filter (names array) (xs ++ ys))
added_both array kept mid xs ys new e f =
    f ∙ ap (λ z. added z (filter (names array) ys)) e
    ∙ sym (added_append kept (filter (names array) xs) (filter (names array) ys))
    ∙ ap (added kept) (sym (filter-append (names array) xs ys))

pub names_append : (array : ℕ) (xs ys : List Access) → filter (names array) (xs ++ ys) ≡ filter (names array) xs ++ filter (names array) ys
names_append array xs ys = filter-append (names array) xs ys

-- the different members

fused : {X : Type 0} (s t u : X → Bool) → ((x : X) → u x ≡ (s x && t x)) → (xs : List X) → filter t (filter s xs) ≡ filter u xs
fused s t u h [] = refl
fused {X} s t u h (x ∷ xs) = elim (cases_Bool (s x)) as (λ _. filter t (filter s (x ∷ xs)) ≡ filter u (x ∷ xs)) [
  | inl e ↦ elim (cases_Bool (t x)) as (λ _. filter t (filter s (x ∷ xs)) ≡ filter u (x ∷ xs)) [
    | inl f ↦ let g : u x ≡ true = h x ∙ ap₂ (λ a b. a && b) e f in
        ap (filter t) (kept s e) ∙ kept_over t (filter s xs) f ∙ ap (λ z. x ∷ z) (fused s t u h xs) ∙ sym (kept u g)
    | inr f ↦ let g : u x ≡ false = h x ∙ ap₂ (λ a b. a && b) e f in
        ap (filter t) (kept s e) ∙ dropped_over t (filter s xs) f ∙ fused s t u h xs ∙ sym (dropped u g)
  ]
  | inr e ↦ let g : u x ≡ false = h x ∙ ap (λ a. a && t x) e in
      ap (filter t) (dropped s e) ∙ fused s t u h xs ∙ sym (dropped u g)
]
  where
    kept_over : (p : X → Bool) (ys : List X) → p x ≡ true → filter p (x ∷ ys) ≡ x ∷ filter p ys
    kept_over p ys e = ap (λ b. cond b (x ∷ filter p ys) (filter p ys)) e

    dropped_over : (p : X → Bool) (ys : List X) → p x ≡ false → filter p (x ∷ ys) ≡ filter p ys
    dropped_over p ys e = ap (λ b. cond b (x ∷ filter p ys) (filter p ys)) e

    kept : (p : X → Bool) → p x ≡ true → filter p (x ∷ xs) ≡ x ∷ filter p xs
    kept p e = ap (λ b. cond b (x ∷ filter p xs) (filter p xs)) e

    dropped : (p : X → Bool) → p x ≡ false → filter p (x ∷ xs) ≡ filter p xs
    dropped p e = ap (λ b. cond b (x ∷ filter p xs) (filter p xs)) e

abbrev fresh : List Access → Access → Bool
fresh kept a = not (known kept a)

-- what is known already is the same as nothing that is new
known_once : (kept : List Access) (a : Access) → known kept a ≡ true → (y : Access) → fresh kept y ≡ (not (same_access a y) && fresh kept y)
known_once kept a h y = elim (cases_Bool (same_access a y)) as (λ _. fresh kept y ≡ (not (same_access a y) && fresh kept y)) [
  | inl e ↦
      let there : known kept y ≡ true = subst (λ z. known kept z ≡ true) (same_access_is a y e) h in
      let f : fresh kept y ≡ false = ap not there in
      f ∙ sym (ap₂ (λ s t. not s && t) e f)
  | inr e ↦ sym (ap (λ s. not s && fresh kept y) e)
]

-- nor is what is put behind it
known_more : (kept : List Access) (a y : Access) → fresh (kept ++ a ∷ []) y ≡ (not (same_access a y) && fresh kept y)
known_more kept a y = ap not (list_any-append (λ b. same_access b y) kept (a ∷ [])) ∙ by (known kept y) (same_access a y)
  where
    by : (b c : Bool) → not (b || (c || false)) ≡ (not c && not b)
    by true true = refl
    by true false = refl
    by false true = refl
    by false false = refl

added_different : (kept xs : List Access) → added kept xs ≡ kept ++ filter (fresh kept) (different same_access xs)
added_different kept [] = sym (append-nil kept)
added_different kept (a ∷ more) = elim (cases_Bool (known kept a)) as (λ _. added kept (a ∷ more) ≡ kept ++ filter (fresh kept) (different same_access (a ∷ more))) [
  | inl h ↦
      let f : fresh kept a ≡ false = ap not h in
      ap (λ z. added z more) (put_known kept a h) ∙ added_different kept more
      ∙ ap (λ z. kept ++ z) (sym (fused (λ y. not (same_access a y)) (fresh kept) (fresh kept) (known_once kept a h) (different same_access more))
      ∙ sym (ap (λ b. cond b (a ∷ rest) rest) f))
  | inr h ↦
      let f : fresh kept a ≡ true = ap not h in
      ap (λ z. added z more) (put_unknown kept a h) ∙ added_different (kept ++ a ∷ []) more
      ∙ append_assoc kept (a ∷ []) (filter (fresh (kept ++ a ∷ [])) (different same_access more))
      ∙ ap (λ z. kept ++ z) (ap (λ z. a ∷ z) (sym (fused (λ y. not (same_access a y)) (fresh kept) (fresh (kept ++ a ∷ [])) (known_more kept a) (different same_access more)))
      ∙ sym (ap (λ b. cond b (a ∷ rest) rest) f))
]
  where
    rest : List Access
    rest = filter (fresh kept) (filter (λ y. not (same_access a y)) (different same_access more))

all_fresh : (xs : List Access) → filter (fresh []) xs ≡ xs
all_fresh [] = refl
all_fresh (x ∷ xs) = ap (λ z. x ∷ z) (all_fresh xs)

-- those that a body reads
pub reads_added : (array : ℕ) (b : Body) (none new : List Access) → none ≡ [] → new ≡ added none (filter (names array) (reads b.right)) → new ≡ read_accesses array b
reads_added array b none new o e =
    e ∙ ap (λ z. added z (filter (names array) (reads b.right))) o
    ∙ added_different [] (filter (names array) (reads b.right))
    ∙ all_fresh (read_accesses array b)

-- a search among accesses

pub in_more : (xs : List Access) (a x : Access) (k : ℕ) → k < length xs → x ≡ get_or xs k x → (In a (take k xs) → ⊥) → (x ≡ a → ⊥) → In a (take (k + 1) xs) → ⊥
in_more xs a x k l e none other i = elim (in_append (take k xs) (x ∷ []) a (subst (In a) (take_more xs k x l ∙ ap (λ z. take k xs ++ z ∷ []) (sym e)) i)) as (λ _. ⊥) [
  | inl j ↦ none j
  | inr j ↦ last j
]
  where
    last : In a (x ∷ []) → ⊥
    last (inl f) = other f
    last (inr n) = n

pub at_in : (xs : List Access) (x : Access) (k : ℕ) → k < length xs → x ≡ get_or xs k x → In x xs
at_in [] x k l e = absurd (omega (arith, l))
at_in (y ∷ xs) x zero l e = inl (sym e)
at_in (y ∷ xs) x (suc k) l e = inr (at_in xs x k (omega (arith, l)) e)

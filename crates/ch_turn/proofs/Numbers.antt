-- Seat numbers and their entries.
use Rattle.std.proofs.Common.{◌≡◌, ◌≢◌, ℕ, zero, suc, ◌<◌, ◌⊎◌, Bool, true, false, eqb, cond, ◌||◌, List, [], ◌∷◌, ◌++◌, sym, refl, ap, ◌∙◌, inl, inr, ⊎_elim, arith, All, append-nil}
use Rattle.std.proofs.lemmas.Bool.{eqb-true, eq-eqb, ne_eqb, or_left, or_right}
use mathlib.Core.Logic.{dite}
use native.Mathlib.Decide.{ℕ_discrete}
use Rattle.ch_turn.specs.Holdings.{has_number, own_entries, without_number, no_entries_below, entries_of, with_entries}

-- tests of numbers
pub or_true : (a b : Bool) → (a || b) ≡ true → (a ≡ true) ⊎ (b ≡ true)
or_true true b h = inl refl
or_true false b h = inr h

pub has_number-append : {A : Type 0} (x : ℕ) (xs ys : List (ℕ × A)) → has_number x (xs ++ ys) ≡ true → (has_number x xs ≡ true) ⊎ (has_number x ys ≡ true)
has_number-append x [] ys h = inr h
has_number-append x (y ∷ xs) ys h = ⊎_elim
    (λ (e : eqb x y.0 ≡ true). inl (or_left (eqb x y.0) (has_number x xs) e))
    (λ (e : has_number x (xs ++ ys) ≡ true). ⊎_elim (λ (t : has_number x xs ≡ true). inl (or_right (eqb x y.0) (has_number x xs) t)) (λ (t : has_number x ys ≡ true). inr t) (has_number-append x xs ys e))
    (or_true (eqb x y.0) (has_number x (xs ++ ys)) h)

pub or_false : (a b : Bool) → (a || b) ≡ false → (a ≡ false) × (b ≡ false)
or_false true b h = absurd (cc)
or_false false b h = (refl, h)

pub cond_same : {E : Type 0} (b : Bool) (l : List E) → l ≡ [] → cond b [] l ≡ []
cond_same true l e = refl
cond_same false l e = e

pub own_entries-append_left_at : {E : Type 0} (b : Bool) (own a c : List E) (t : Bool) → (b || t) ≡ true → (t ≡ true → a ≡ c) → cond b own a ≡ cond b own c
own_entries-append_left_at true own a c t h back = refl
own_entries-append_left_at false own a c t h back = back h

pub own_entries-with_entries_at : {E : Type 0} (by : E → ℕ) (more : List E) (x : ℕ) (y : ℕ × List E) (a c : List E) (t b : Bool) → eqb x y.0 ≡ b → (b || t) ≡ true → (t ≡ true → a ≡ c ++ entries_of by x more) → cond b (y.1 ++ entries_of by y.0 more) a ≡ cond b y.1 c ++ entries_of by x more
own_entries-with_entries_at by more x y a c t true is h back = ap (λ (z : ℕ). y.1 ++ entries_of by z more) (sym (eqb-true x y.0 is))
own_entries-with_entries_at by more x y a c t false is h back = back h

pub one_number : {A : Type 0} (x n : ℕ) (a : A) → has_number x ((n, a) ∷ []) ≡ true → x ≡ n
one_number x n a h = ⊎_elim (λ e. eqb-true x n e) (λ e. absurd (cc)) (or_true (eqb x n) false h)

pub has_number-append_right : {A : Type 0} (x : ℕ) (xs ys : List (ℕ × A)) → has_number x ys ≡ true → has_number x (xs ++ ys) ≡ true
has_number-append_right x [] ys h = h
has_number-append_right x (y ∷ xs) ys h = or_right (eqb x y.0) (has_number x (xs ++ ys)) (has_number-append_right x xs ys h)

pub has_number-without_at : {A : Type 0} (x n : ℕ) (y : ℕ × A) (ys : List (ℕ × A)) (b : Bool) → eqb n y.0 ≡ b → (eqb x y.0 || has_number x ys) ≡ true → x ≢ n → (has_number x ys ≡ true → x ≢ n → has_number x (without_number n ys) ≡ true) → has_number x (cond b (without_number n ys) (y ∷ without_number n ys)) ≡ true
has_number-without_at x n y ys true is h ne back = ⊎_elim (λ (e : eqb x y.0 ≡ true). absurd (ne (eqb-true x y.0 e ∙ sym (eqb-true n y.0 is)))) (λ (e : has_number x ys ≡ true). back e ne) (or_true (eqb x y.0) (has_number x ys) h)
has_number-without_at x n y ys false is h ne back = ⊎_elim (λ (e : eqb x y.0 ≡ true). or_left (eqb x y.0) (has_number x (without_number n ys)) e) (λ (e : has_number x ys ≡ true). or_right (eqb x y.0) (has_number x (without_number n ys)) (back e ne)) (or_true (eqb x y.0) (has_number x ys) h)

-- the other numbers stay
pub has_number-without : {A : Type 0} (x n : ℕ) (xs : List (ℕ × A)) → has_number x xs ≡ true → x ≢ n → has_number x (without_number n xs) ≡ true
has_number-without x n [] h ne = h
has_number-without x n (y ∷ ys) h ne = has_number-without_at x n y ys (eqb n y.0) refl h ne (has_number-without x n ys)

pub has_number-append_left : {A : Type 0} (x : ℕ) (xs ys : List (ℕ × A)) → has_number x xs ≡ true → has_number x (xs ++ ys) ≡ true
has_number-append_left x [] ys h = absurd (cc)
has_number-append_left x (y ∷ xs) ys h = ⊎_elim (λ (e : eqb x y.0 ≡ true). or_left (eqb x y.0) (has_number x (xs ++ ys)) e) (λ (e : has_number x xs ≡ true). or_right (eqb x y.0) (has_number x (xs ++ ys)) (has_number-append_left x xs ys e)) (or_true (eqb x y.0) (has_number x xs) h)

pub has_number-below : (E : Type 0) (n k : ℕ) → n < k → has_number n (no_entries_below {E = E} k) ≡ true
unfolding no_entries_below
has_number-below E n zero h = absurd (omega arith)
has_number-below E n (suc k) h = dite (ℕ_discrete n k) (λ e. or_left (eqb n k) (has_number n (no_entries_below {E = E} k)) (eq-eqb n k e)) (λ ne. or_right (eqb n k) (has_number n (no_entries_below {E = E} k)) (has_number-below E n k (omega arith)))

pub own_entries-below : (E : Type 0) (n k : ℕ) → own_entries n (no_entries_below {E = E} k) ≡ []
unfolding no_entries_below
own_entries-below E n zero = refl
own_entries-below E n (suc k) = cond_same (eqb n k) (own_entries n (no_entries_below {E = E} k)) (own_entries-below E n k)

pub has_number-of_without_at : {A : Type 0} (x n : ℕ) (y : ℕ × A) (ys : List (ℕ × A)) (b : Bool) → eqb n y.0 ≡ b → has_number x (cond b (without_number n ys) (y ∷ without_number n ys)) ≡ true → (has_number x (without_number n ys) ≡ true → (has_number x ys ≡ true) × (x ≢ n))
    → ((eqb x y.0 || has_number x ys) ≡ true) × (x ≢ n)
has_number-of_without_at x n y ys true is h back = let t = back h in (or_right (eqb x y.0) (has_number x ys) t.0, t.1)
has_number-of_without_at x n y ys false is h back = ⊎_elim
    (λ (e : eqb x y.0 ≡ true). (or_left (eqb x y.0) (has_number x ys) e, λ (same : x ≡ n). let hit : eqb n y.0 ≡ true = eq-eqb n y.0 (sym same ∙ eqb-true x y.0 e) in absurd (cc)))
    (λ (e : has_number x (without_number n ys) ≡ true). let t = back e in (or_right (eqb x y.0) (has_number x ys) t.0, t.1))
    (or_true (eqb x y.0) (has_number x (without_number n ys)) h)

pub has_number-of_without : {A : Type 0} (x n : ℕ) (xs : List (ℕ × A)) → has_number x (without_number n xs) ≡ true → (has_number x xs ≡ true) × (x ≢ n)
has_number-of_without x n [] h = absurd (cc)
has_number-of_without x n (y ∷ ys) h = has_number-of_without_at x n y ys (eqb n y.0) refl h (has_number-of_without x n ys)

-- the entries of the other numbers stay
pub own_entries-without_at : {E : Type 0} (x n : ℕ) (y : ℕ × List E) (ys : List (ℕ × List E)) (b : Bool) → eqb n y.0 ≡ b → x ≢ n → own_entries x (without_number n ys) ≡ own_entries x ys → own_entries x (cond b (without_number n ys) (y ∷ without_number n ys)) ≡ cond (eqb x y.0) y.1 (own_entries x ys)
own_entries-without_at x n y ys true is ne back = let miss : eqb x y.0 ≡ false = ne_eqb x y.0 (λ e. ne (e ∙ sym (eqb-true n y.0 is))) in rw miss back
own_entries-without_at x n y ys false is ne back = ap (λ l. cond (eqb x y.0) y.1 l) back

pub own_entries-without : {E : Type 0} (x n : ℕ) (xs : List (ℕ × List E)) → x ≢ n → own_entries x (without_number n xs) ≡ own_entries x xs
own_entries-without x n [] ne = refl
own_entries-without x n (y ∷ ys) ne = own_entries-without_at x n y ys (eqb n y.0) refl ne (own_entries-without x n ys ne)

-- of two rows the first that has the number
pub own_entries-append_left : {E : Type 0} (x : ℕ) (xs ys : List (ℕ × List E)) → has_number x xs ≡ true → own_entries x (xs ++ ys) ≡ own_entries x xs
own_entries-append_left x [] ys h = absurd (cc)
own_entries-append_left x (y ∷ xs) ys h = own_entries-append_left_at (eqb x y.0) y.1 (own_entries x (xs ++ ys)) (own_entries x xs) (has_number x xs) h (own_entries-append_left x xs ys)

pub own_entries-append_right : {E : Type 0} (x : ℕ) (xs ys : List (ℕ × List E)) → has_number x xs ≡ false → own_entries x (xs ++ ys) ≡ own_entries x ys
own_entries-append_right x [] ys h = refl
own_entries-append_right x (y ∷ xs) ys h = let p = or_false (eqb x y.0) (has_number x xs) h in rw p.0 (own_entries-append_right x xs ys p.1)

-- what a row has of a number after more entries
pub has_number-with_entries : {E : Type 0} (by : E → ℕ) (more : List E) (x : ℕ) (xs : List (ℕ × List E)) → has_number x (with_entries by more xs) ≡ has_number x xs
has_number-with_entries by more x [] = refl
has_number-with_entries by more x (y ∷ ys) = ap (λ b. eqb x y.0 || b) (has_number-with_entries by more x ys)

pub own_entries-with_entries : {E : Type 0} (by : E → ℕ) (more : List E) (x : ℕ) (xs : List (ℕ × List E)) → has_number x xs ≡ true → own_entries x (with_entries by more xs) ≡ own_entries x xs ++ entries_of by x more
own_entries-with_entries by more x [] h = absurd (cc)
own_entries-with_entries by more x (y ∷ ys) h = own_entries-with_entries_at by more x y (own_entries x (with_entries by more ys)) (own_entries x ys) (has_number x ys) (eqb x y.0) refl h (own_entries-with_entries by more x ys)

module _ {E : Type 0} (by : E → ℕ) where
  -- entries of one number have no other number
  pub entries_of-other : (own n : ℕ) → n ≢ own → (more : List E) → All (λ e. by e ≡ own) more → entries_of by n more ≡ []
  entries_of-other own n ne [] h = refl
  entries_of-other own n ne (x ∷ xs) h =
      let first : by x ≡ own = h 0 x (omega arith) in
      let not : eqb (by x) n ≡ false = ne_eqb (by x) n (λ e. ne (sym e ∙ first)) in
      rw not (entries_of-other own n ne xs (λ k d l. h (suc k) d (omega arith)))

entries_of-same : {E : Type 0} (by : E → ℕ) (n : ℕ) (more : List E) → All (λ e. by e ≡ n) more → entries_of by n more ≡ more
entries_of-same by n [] h = refl
entries_of-same by n (x ∷ xs) h =
    let first : by x ≡ n = h 0 x (omega arith) in
    rw (eq-eqb (by x) n first) (ap (λ l. x ∷ l) (entries_of-same by n xs (λ k d l. h (suc k) d (omega arith))))

-- the own entries of a number after entries that all carry it, and after entries that all carry another
pub own_entries-with_own : {E : Type 0} (by : E → ℕ) (n : ℕ) (came more : List E) → came ≡ more → (xs : List (ℕ × List E)) → has_number n xs ≡ true → All (λ e. by e ≡ n) more → own_entries n (with_entries by came xs) ≡ own_entries n xs ++ came
own_entries-with_own by n came more is xs h all = own_entries-with_entries by came n xs h ∙ ap (λ l. own_entries n xs ++ l) (ap (entries_of by n) is ∙ (entries_of-same by n more all ∙ sym is))

pub own_entries-with_other : {E : Type 0} (by : E → ℕ) (own n : ℕ) (came more : List E) → came ≡ more → (xs : List (ℕ × List E)) → has_number n xs ≡ true → n ≢ own → All (λ e. by e ≡ own) more → own_entries n (with_entries by came xs) ≡ own_entries n xs
own_entries-with_other by own n came more is xs h ne all = own_entries-with_entries by came n xs h ∙ (ap (λ l. own_entries n xs ++ l) (ap (entries_of by n) is ∙ entries_of-other by own n ne more all) ∙ append-nil (own_entries n xs))

-- No seat number stands twice.
use Rattle.std.proofs.Common.{◌≡◌, ℕ, zero, suc, ◌≤◌, Bool, true, false, eqb, cond, ◌||◌, List, [], ◌∷◌, ◌++◌, refl, ◌∙◌, subst, ⊎_elim, arith, le_refl}
use Rattle.std.proofs.lemmas.Bool.{eqb-true, eq-eqb, ne_eqb, or_left, or_right}
use Rattle.ch_turn.specs.Holdings.{has_number, own_entries, without_number, no_entries_below, with_entries, IsOnceEach}
use Rattle.ch_turn.proofs.Numbers.{has_number-append, has_number-append_right, has_number-of_without, has_number-with_entries, own_entries-append_right}

not_true : (b : Bool) → (b ≡ true → ⊥) → b ≡ false
not_true true h = absurd (h refl)
not_true false h = refl

clash : (b : Bool) → b ≡ true → b ≡ false → ⊥
clash b is not = cc

neither : (a b : Bool) → a ≡ false → b ≡ false → (a || b) ≡ false
neither true b p q = absurd (cc)
neither false b p q = q

-- the numbers below k are all
has_number-not_below : (E : Type 0) (n k : ℕ) → k ≤ n → has_number n (no_entries_below {E = E} k) ≡ false
unfolding no_entries_below
has_number-not_below E n zero h = refl
has_number-not_below E n (suc k) h = neither (eqb n k) (has_number n (no_entries_below {E = E} k)) (ne_eqb n k (λ e. omega arith)) (has_number-not_below E n k (omega arith))

pub IsOnceEach-below : (E : Type 0) (k : ℕ) → IsOnceEach (no_entries_below {E = E} k)
unfolding no_entries_below
IsOnceEach-below E zero = tt
IsOnceEach-below E (suc k) = (has_number-not_below E k k (le_refl k), IsOnceEach-below E k)

pub IsOnceEach-with_entries : {E : Type 0} (by : E → ℕ) (more : List E) (xs : List (ℕ × List E)) → IsOnceEach xs → IsOnceEach (with_entries by more xs)
IsOnceEach-with_entries by more [] h = tt
IsOnceEach-with_entries by more (x ∷ xs) h = (has_number-with_entries by more x.0 xs ∙ h.0, IsOnceEach-with_entries by more xs h.1)

without_at : {A : Type 0} (n : ℕ) (x : ℕ × A) (xs : List (ℕ × A)) (b : Bool) → has_number x.0 xs ≡ false → IsOnceEach (without_number n xs) → IsOnceEach (cond b (without_number n xs) (x ∷ without_number n xs))
without_at n x xs true h rest_once = rest_once
without_at n x xs false h rest_once = (not_true _ (λ t. clash _ (has_number-of_without x.0 n xs t).0 h), rest_once)

pub IsOnceEach-without : {A : Type 0} (n : ℕ) (xs : List (ℕ × A)) → IsOnceEach xs → IsOnceEach (without_number n xs)
IsOnceEach-without n [] h = tt
IsOnceEach-without n (x ∷ xs) h = without_at n x xs (eqb n x.0) h.0 (IsOnceEach-without n xs h.1)

-- of two holdings that share no number
pub IsOnceEach-append : {A : Type 0} (xs ys : List (ℕ × A)) → IsOnceEach xs → IsOnceEach ys → ((n : ℕ) → has_number n xs ≡ true → has_number n ys ≡ true → ⊥) → IsOnceEach (xs ++ ys)
IsOnceEach-append [] ys a b apart = b
IsOnceEach-append (x ∷ xs) ys a b apart = (
  not_true _ (λ t. ⊎_elim (λ (p : has_number x.0 xs ≡ true). clash _ p a.0) (λ (q : has_number x.0 ys ≡ true). apart x.0 (or_left (eqb x.0 x.0) (has_number x.0 xs) (eq-eqb x.0 x.0 refl)) q) (has_number-append x.0 xs ys t)),
  IsOnceEach-append xs ys a.1 b (λ n p q. apart n (or_right (eqb n x.0) (has_number n xs) p) q),
)

-- and the other way round
not_first : {A : Type 0} (n : ℕ) (xs ys : List (ℕ × A)) → IsOnceEach (xs ++ ys) → has_number n ys ≡ true → has_number n xs ≡ false
not_first n [] ys once h = refl
not_first n (x ∷ xs) ys once h = neither (eqb n x.0) (has_number n xs)
    (not_true _ (λ t. clash _ (has_number-append_right x.0 xs ys (subst (λ (z : ℕ). has_number z ys ≡ true) (eqb-true n x.0 t) h)) once.0))
    (not_first n xs ys once.1 h)

-- what the second of two holdings has of a number, both together have
pub own_entries-once : {E : Type 0} (n : ℕ) (xs ys : List (ℕ × List E)) → IsOnceEach (xs ++ ys) → has_number n ys ≡ true → own_entries n (xs ++ ys) ≡ own_entries n ys
own_entries-once n xs ys once h = own_entries-append_right n xs ys (not_first n xs ys once h)

-- the number that was taken out is gone
pub has_number-gone : {A : Type 0} (n : ℕ) (xs : List (ℕ × A)) → has_number n (without_number n xs) ≡ false
has_number-gone n xs = not_true _ (λ t. (has_number-of_without n n xs t).1 refl)

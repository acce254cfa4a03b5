-- The seat numbers that a seat holds, each with its own entries: those of the history that carry the number.
use Rattle.std.specs.Prelude.{◌≡◌, ℕ, zero, suc, ◌<◌, ◌++◌, Bool, true, false, eqb, cond, ◌||◌, List, [], ◌∷◌, filter}

-- whether the number n is among them
abbrev pub has_number : {A : Type 0} → ℕ → List (ℕ × A) → Bool
has_number n [] = false
has_number n (x ∷ xs) = eqb n x.0 || has_number n xs

-- the own entries of the number n
abbrev pub own_entries : {E : Type 0} → ℕ → List (ℕ × List E) → List E
own_entries n [] = []
own_entries n (x ∷ xs) = cond (eqb n x.0) x.1 (own_entries n xs)

-- all but the number n
abbrev pub without_number : {A : Type 0} → ℕ → List (ℕ × A) → List (ℕ × A)
without_number n [] = []
without_number n (x ∷ xs) = cond (eqb n x.0) (without_number n xs) (x ∷ without_number n xs)

-- each number below the bound, with no entry yet
unfoldable pub no_entries_below : {E : Type 0} → ℕ → List (ℕ × List E)
no_entries_below zero = []
no_entries_below (suc n) = (n, []) ∷ no_entries_below n

-- the entries of a history that carry the number n
abbrev pub entries_of : {E : Type 0} → (E → ℕ) → ℕ → List E → List E
entries_of by n es = filter (λ e. eqb (by e) n) es

-- the holdings after more entries came to the history
abbrev pub with_entries : {E : Type 0} → (E → ℕ) → List E → List (ℕ × List E) → List (ℕ × List E)
with_entries by more [] = []
with_entries by more (x ∷ xs) = (x.0, x.1 ++ entries_of by x.0 more) ∷ with_entries by more xs

-- no number stands twice
abbrev pub IsOnceEach : {A : Type 0} → List (ℕ × A) → Type 0
IsOnceEach [] = Unit {0}
IsOnceEach (x ∷ xs) = (has_number x.0 xs ≡ false) × IsOnceEach xs

-- some seat number is among them
abbrev pub HasSomeNumber : {E : Type 0} → List (ℕ × List E) → Type 0
HasSomeNumber holdings = (n : ℕ) × (n < 65536) × (has_number n holdings ≡ true)

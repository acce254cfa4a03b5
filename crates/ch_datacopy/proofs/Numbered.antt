-- Members of lists by their numbers.
use Rattle.std.proofs.Common.{◌≡◌, refl, ap, subst, ℕ, zero, suc, ◌+◌, ◌<◌, List, [], ◌∷◌, ◌++◌, map, length, ◌⊎◌, inl, inr, arith}
use Rattle.ch_timed.specs.Members.{In}

-- it is the member of that number
abbrev pub Nth : {X : Type 0} → ℕ → List X → X → Type 0
Nth k [] y = ⊥
Nth zero (x ∷ xs) y = x ≡ y
Nth (suc k) (x ∷ xs) y = Nth k xs y

pub nth_in : {X : Type 0} (k : ℕ) (xs : List X) (y : X) → Nth k xs y → In y xs
nth_in k [] y n = absurd n
nth_in zero (x ∷ xs) y n = inl n
nth_in (suc k) (x ∷ xs) y n = inr (nth_in k xs y n)

pub in_nth : {X : Type 0} (xs : List X) (y : X) → In y xs → (k : ℕ) × Nth k xs y
in_nth [] y i = absurd i
in_nth (x ∷ xs) y (inl e) = (0, e)
in_nth (x ∷ xs) y (inr i) = let r = in_nth xs y i in (suc r.0, r.1)

pub nth_small : {X : Type 0} (k : ℕ) (xs : List X) (y : X) → Nth k xs y → k < length xs
nth_small k [] y n = absurd n
nth_small zero (x ∷ xs) y n = omega arith
nth_small (suc k) (x ∷ xs) y n = let l = nth_small k xs y n in omega arith

pub nth_map : {X Y : Type 0} (f : X → Y) (k : ℕ) (xs : List X) (x : X) → Nth k xs x → Nth k (map f xs) (f x)
nth_map f k [] x n = absurd n
nth_map f zero (y ∷ ys) x n = ap f n
nth_map f (suc k) (y ∷ ys) x n = nth_map f k ys x n

pub map_nth : {X Y : Type 0} (f : X → Y) (k : ℕ) (xs : List X) (y : Y) → Nth k (map f xs) y → (x : X) × (Nth k xs x × (f x ≡ y))
map_nth f k [] y n = absurd n
map_nth f zero (x ∷ xs) y n = (x, (refl, n))
map_nth f (suc k) (x ∷ xs) y n = map_nth f k xs y n

pub nth_left : {X : Type 0} (k : ℕ) (xs ys : List X) (y : X) → Nth k xs y → Nth k (xs ++ ys) y
nth_left k [] ys y n = absurd n
nth_left zero (x ∷ xs) ys y n = n
nth_left (suc k) (x ∷ xs) ys y n = nth_left k xs ys y n

pub nth_right : {X : Type 0} (k : ℕ) (xs ys : List X) (y : X) → Nth k ys y → (m : ℕ) → m ≡ length xs + k → Nth m (xs ++ ys) y
nth_right k [] ys y n m e = subst (λ z. Nth z ys y) (let f : k ≡ m = omega arith in f) n
nth_right k (x ∷ xs) ys y n zero e = absurd (omega arith)
nth_right k (x ∷ xs) ys y n (suc m) e = nth_right k xs ys y n m (omega arith)

pub nth_split : {X : Type 0} (k : ℕ) (xs ys : List X) (y : X) → Nth k (xs ++ ys) y → Nth k xs y ⊎ ((m : ℕ) × ((k ≡ length xs + m) × Nth m ys y))
nth_split k [] ys y n = inr (k, (omega arith, n))
nth_split zero (x ∷ xs) ys y n = inl n
nth_split (suc k) (x ∷ xs) ys y n = elim (nth_split k xs ys y n) as (λ _. Nth (suc k) (x ∷ xs) y ⊎ ((m : ℕ) × ((suc k ≡ length (x ∷ xs) + m) × Nth m ys y))) [
  | inl i ↦ inl i
  | inr r ↦ let e = r.1.0 in inr (r.0, (omega arith, r.1.1))
]

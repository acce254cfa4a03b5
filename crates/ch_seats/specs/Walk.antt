-- Two rows, one thing of one for each of the other, and a walk along them.
use Rattle.std.specs.Prelude.{◌≡◌, ℕ, ◌<◌, ◌≤◌, List, length, slice_index_or}

-- P holds of each pair, with its place
abbrev pub Row : {A B : Type 0} → (ℕ → A → B → Type 0) → List A → List B → Type 0
Row {A} {B} P xs ys =
    (length ys ≡ length xs) × ((j : ℕ) (a : A) (b : B) → j < length xs → P j (slice_index_or xs j a) (slice_index_or ys j b))

-- Q holds of the first i pairs, which the walk has passed, and P of the others.
abbrev pub Walks : {A B : Type 0} → (ℕ → A → B → Type 0) → (ℕ → A → B → Type 0) → ℕ → List A → List B → Type 0
Walks {A} {B} P Q i xs ys =
    (length ys ≡ length xs)
    × ((j : ℕ) (a : A) (b : B) → j < i → j < length xs → Q j (slice_index_or xs j a) (slice_index_or ys j b))
    × ((j : ℕ) (a : A) (b : B) → i ≤ j → j < length xs → P j (slice_index_or xs j a) (slice_index_or ys j b))

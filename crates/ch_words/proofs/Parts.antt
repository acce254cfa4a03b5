-- Lists that are read one element after another.
use Rattle.std.proofs.Common.{◌≡◌, refl, sym, ap, ◌∙◌, ℕ, ◌+◌, ◌<◌, ◌≤◌, List, [], ◌∷◌, ◌++◌, get_or, drop, length, append_assoc, append-nil, arith}
use Rattle.std.specs.Prelude.{Option, Some, None, option_map, option_and_then}
use Rattle.std.proofs.lemmas.List.{at_drop_more, at_drop_all}
use Rattle.ch_words.specs.Numbers.{each_read}

-- what was read, in front of what the rest gives
abbrev pub read_behind : {A B : Type 0} → (A → Option B) → List B → List A → Option (List B)
read_behind read ys xs = option_map (λ more. ys ++ more) (each_read read xs)

pub read_from_the_start : {A B : Type 0} (read : A → Option B) (xs : List A) → read_behind read [] xs ≡ each_read read xs
read_from_the_start read xs = elim (each_read read xs) as (λ r. option_map (λ more. [] ++ more) r ≡ r) [ Some ys ↦ refl | None ↦ refl ]

pub read_to_the_end : {A B : Type 0} (read : A → Option B) (ys : List B) (xs : List A) (k : ℕ) → length xs ≤ k → read_behind read ys (drop k xs) ≡ Some ys
read_to_the_end read ys xs k past = at_drop_all (read_behind read ys) xs k past ∙ ap (λ zs. Some zs) (append-nil ys)

onto : {B : Type 0} (ys : List B) (y : B) (rest : Option (List B))
    → option_map (λ more. ys ++ more) (option_map (λ more. y ∷ more) rest) ≡ option_map (λ more. (ys ++ y ∷ []) ++ more) rest
onto ys y (Some zs) = ap (λ ws. Some ws) (sym (append_assoc ys (y ∷ []) zs))
onto ys y None = refl

-- the element that stands at `k` is read as `y`
pub read_one : {A B : Type 0} (read : A → Option B) (ys : List B) (y : B) (xs : List A) (k : ℕ) (x : A) → (k < length xs) × (x ≡ get_or xs k x) → read x ≡ Some y
    → read_behind read (ys ++ y ∷ []) (drop (k + 1) xs) ≡ read_behind read ys (drop k xs)
read_one read ys y xs k x at is =
    let some : read (get_or xs k x) ≡ Some y = ap read (sym at.1) ∙ is in
    sym (at_drop_more (read_behind read ys) xs k x at.0
    ∙ ap (λ r. option_map (λ more. ys ++ more) (option_and_then (λ z. option_map (λ zs. z ∷ zs) (each_read read (drop (k + 1) xs))) r)) some
    ∙ onto ys y (each_read read (drop (k + 1) xs)))

-- the element that stands at `k` isn't read
pub read_none : {A B : Type 0} (read : A → Option B) (ys : List B) (xs : List A) (k : ℕ) (x : A) → (k < length xs) × (x ≡ get_or xs k x) → read x ≡ None
    → read_behind read ys (drop k xs) ≡ None
read_none read ys xs k x at is =
    let none : read (get_or xs k x) ≡ None = ap read (sym at.1) ∙ is in
    at_drop_more (read_behind read ys) xs k x at.0
    ∙ ap (λ r. option_map (λ more. ys ++ more) (option_and_then (λ z. option_map (λ zs. z ∷ zs) (each_read read (drop (k + 1) xs))) r)) none

-- One level more: its value put among the others and taken out again, and the forms that leave it out.
use Rattle.std.proofs.Common.{◌≡◌, refl, sym, ap, ap₂, ◌∙◌, ℕ, zero, suc, ◌+◌, ◌<◌, ◌≤◌, ℤ, List, [], ◌∷◌, ◌++◌, length, map, take, drop, get_or, arith}
use Rattle.std.proofs.lemmas.List.{drop-map, map-append, take-map}
use Rattle.ch_affine.specs.Affine.{value}
use Rattle.ch_space.specs.Built.{units}
use Rattle.ch_moved.specs.Substituted.{image}
use Rattle.ch_moved.proofs.UnitForms.{image_units}
use Rattle.ch_tile.specs.Layout.{removed}
use Rattle.ch_tile.specs.Tiled.{inserted}

pub removed_inserted : {A : Type 0} (k : ℕ) (x : A) (xs : List A) → k ≤ length xs → removed k (inserted k x xs) ≡ xs
removed_inserted zero x xs h = refl
removed_inserted (suc k) x [] h = absurd (omega arith)
removed_inserted (suc k) x (y ∷ ys) h = ap (λ t. y ∷ t) (removed_inserted k x ys (omega arith))

pub inserted_removed : {A : Type 0} (k : ℕ) (d : A) (ys : List A) → k < length ys → inserted k (get_or ys k d) (removed k ys) ≡ ys
inserted_removed k d [] h = absurd (omega arith)
inserted_removed zero d (y ∷ ys) h = refl
inserted_removed (suc k) d (y ∷ ys) h = ap (λ t. y ∷ t) (inserted_removed k d ys (omega arith))

pub length_inserted : {A : Type 0} (k : ℕ) (x : A) (xs : List A) → k ≤ length xs → length (inserted k x xs) ≡ length xs + 1
length_inserted zero x xs h = omega arith
length_inserted (suc k) x [] h = absurd (omega arith)
length_inserted (suc k) x (y ∷ ys) h = let e = length_inserted k x ys (omega arith) in omega (arith, e)

pub length_removed : {A : Type 0} (k : ℕ) (ys : List A) → k < length ys → length (removed k ys) + 1 ≡ length ys
length_removed k [] h = absurd (omega arith)
length_removed zero (y ∷ ys) h = omega arith
length_removed (suc k) (y ∷ ys) h = let e = length_removed k ys (omega arith) in omega (arith, e)

-- the value of a level before it
pub ahead : {A : Type 0} (k n : ℕ) (d : A) (ys : List A) → n < k → get_or (removed k ys) n d ≡ get_or ys n d
ahead zero n d ys h = absurd (omega arith)
ahead (suc k) n d [] h = refl
ahead (suc k) zero d (y ∷ ys) h = refl
ahead (suc k) (suc n) d (y ∷ ys) h = ahead k n d ys (omega arith)

-- the value of a level behind it
pub behind : {A : Type 0} (k n : ℕ) (d : A) (ys : List A) → k ≤ n → get_or (removed k ys) n d ≡ get_or ys (suc n) d
behind zero n d [] h = refl
behind (suc k) n d [] h = refl
behind zero n d (y ∷ ys) h = refl
behind (suc k) zero d (y ∷ ys) h = absurd (omega arith)
behind (suc k) (suc n) d (y ∷ ys) h = behind k n d ys (omega arith)

-- forms that leave one variable out

pub map_removed : {A B : Type 0} (f : A → B) (k : ℕ) (xs : List A) → map f (removed k xs) ≡ removed k (map f xs)
map_removed f k xs = map-append f (take k xs) (drop (suc k) xs) ∙ ap₂ (λ s t. s ++ t) (sym (take-map f k xs)) (sym (drop-map f (suc k) xs))

pub image_removed : (k n : ℕ) (ys : List ℤ) → length ys ≡ n → image (removed k (units 0 n)) ys ≡ removed k ys
image_removed k n ys l = map_removed (λ g. value g ys) k (units 0 n) ∙ ap (removed k) (image_units n ys l)

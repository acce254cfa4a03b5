-- A tiled piece has the elements of the old one, each at its tile.
use Rattle.std.proofs.Common.{◌≡◌, refl, sym, ap, ap₂, ◌∙◌, subst, ℕ, zero, suc, ◌+◌, ◌-◌, ◌<◌, ◌≤◌, ◌/◌, ◌^◌, ℤ, pos, negsuc, neg_ℤ, ◌+ℤ◌, ◌-ℤ◌, ◌*ℤ◌, ◌≤ℤ◌, true, int_le, List, [], ◌∷◌, ◌++◌, length, take, drop, get_or, arith, length-take-le}
use Rattle.std.specs.Bool.{IsTrue}
use Rattle.std.specs.Int.{int_div_euclid}
use Rattle.std.specs.List.{All}
use Rattle.std.proofs.lemmas.Bool.{and_from, and_parts}
use Rattle.std.proofs.lemmas.Int.{ints}
use Rattle.std.proofs.lemmas.List.{get_or-drop, length-drop}
use Rattle.std.proofs.lemmas.List.Elements.{All-append, All-cons, All-drop, All-take}
use Rattle.std.proofs.lemmas.Nat.{le-div}
use Rattle.std.proofs.Math.Nat.{div-mul-le_self}
use Rattle.ch_affine.specs.Affine.{IsAtMost, form, value}
use Rattle.ch_affine.specs.Rows.{IsBox, all_hold, lies_in}
use Rattle.ch_affine.specs.declared.system.Range.{Range}
use Rattle.ch_nest.proofs.Corners.{lies_first}
use Rattle.ch_space.specs.Built.{zeros}
use Rattle.ch_space.specs.Keeps.{IsBounded}
use Rattle.ch_tile.specs.Layout.{tile_rows, tiles_of, two_levels}
use Rattle.ch_tile.specs.Tiled.{inserted}
use Rattle.ch_tile.proofs.Tiles.{in_tile, row_value, tile_in}

less_parts : (a b t : ℕ) → 0 < t → a ≤ b → a / t ≤ b / t
less_parts a b t some h = let m = div-mul-le_self a t in le-div (a / t) b t some (omega arith)

-- the number of the tile grows with the value
pub quotient_grows : (t : ℕ) (x y : ℤ) → 0 < t → x ≤ℤ y → int_div_euclid x (pos t) ≤ℤ int_div_euclid y (pos t)
quotient_grows t (pos a) (pos b) some h = let m : a ≤ b = omega (arith, ints) in let l = less_parts a b t some m in omega (arith, ints)
quotient_grows t (pos a) (negsuc b) some h = absurd (omega (arith, ints))
quotient_grows t (negsuc a) (pos b) some h = omega (arith, ints)
quotient_grows t (negsuc a) (negsuc b) some h = let m : b ≤ a = omega (arith, ints) in let l = less_parts b a t some m in omega (arith, ints)

-- and is no farther
pub quotient_near : (m t : ℕ) (x : ℤ) → 0 < t → IsAtMost m x → IsAtMost m (int_div_euclid x (pos t))
quotient_near m t (pos a) some h = let d = less_parts a a t some (omega arith) in omega (arith, ints)
quotient_near m t (negsuc a) some h = omega (arith, ints)

-- ranges

pub tiles_bounded : (m t : ℕ) (r : Range) → 0 < t → IsBounded m r → IsBounded m (tiles_of t r)
tiles_bounded m t r some h = record { low = quotient_near m t r.low some h.low; high = quotient_near m t r.high some h.high }

pub tiles_are_box : (t : ℕ) (r : Range) → 0 < t → IsBox r → IsBox (tiles_of t r)
tiles_are_box t r some h = record {
  low = quotient_near (2 ^ 54) t r.low some h.low;
  high = quotient_near (2 ^ 54) t r.high some h.high;
  some = quotient_grows t r.low r.high some h.some;
}

pub all_inserted : {A : Type 0} (P : A → Type 0) (k : ℕ) (x : A) (xs : List A) → P x → All P xs → All P (inserted k x xs)
all_inserted P k x xs p h = All-append P (take k xs) (x ∷ drop k xs) (All-take P k xs h) (All-cons P x (drop k xs) p (All-drop P k xs h))

lies_more : (r : Range) (rs : List Range) (x : ℤ) (xs : List ℤ) → r.low ≤ℤ x → x ≤ℤ r.high → IsTrue (lies_in rs xs) → IsTrue (lies_in (r ∷ rs) (x ∷ xs))
lies_more r rs x xs l h o =
    let a : int_le r.low x ≡ true = grind (arith, ints) in
    let b : int_le x r.high ≡ true = grind (arith, ints) in
    rw (a, b) o

pub inserted_lies : (j : ℕ) (r : Range) (rs : List Range) (x : ℤ) (xs : List ℤ) → j ≤ length rs → r.low ≤ℤ x → x ≤ℤ r.high → IsTrue (lies_in rs xs)
    → IsTrue (lies_in (inserted j r rs) (inserted j x xs))
inserted_lies zero r rs x xs l low high h = lies_more r rs x xs low high h
inserted_lies (suc j) r [] x xs l low high h = absurd (omega arith)
inserted_lies (suc j) r (s ∷ rs) x [] l low high h = absurd cc
inserted_lies (suc j) r (s ∷ rs) x (y ∷ ys) l low high h =
    let f = lies_first s rs y ys h in
    lies_more s (inserted j r rs) y (inserted j x ys) f.low f.high (inserted_lies j r rs x ys (omega arith) low high f.others)

-- rows

split_at : (k : ℕ) (xs : List ℤ) → k < length xs → xs ≡ take k xs ++ get_or xs k (pos 0) ∷ drop (suc k) xs
split_at k [] h = absurd (omega arith)
split_at zero (x ∷ xs) h = refl
split_at (suc k) (x ∷ xs) h = ap (λ t. x ∷ t) (split_at k xs (omega arith))

pub two_value : (n j l : ℕ) (a b k f : ℤ) (xs : List ℤ) → length xs ≡ n → j ≤ l → l < n
    → value (two_levels n j l a b k) (inserted j f xs) ≡ k +ℤ (a *ℤ f +ℤ b *ℤ get_or xs l (pos 0))
two_value n j l a b k f xs e h m =
    let rest : List ℤ = drop j xs in
    let there = length-drop j xs in
    let parted = split_at (l - j) (drop j xs) (omega arith) in
    let same : get_or (drop j xs) (l - j) (pos 0) ≡ get_or xs l (pos 0) = get_or-drop j xs (l - j) (pos 0) ∙ (let i : j + (l - j) ≡ l = omega arith in ap (λ i. get_or xs i (pos 0)) i) in
    let front : length (take j xs) ≡ j = length-take-le j xs (omega arith) in
    let mid : length (take (l - j) (drop j xs)) ≡ l - j = length-take-le (l - j) (drop j xs) (omega arith) in
    ap₂ (λ i t. value (form (zeros i ++ a ∷ (zeros (l - j) ++ b ∷ zeros (n - 1 - l))) k) (take j xs ++ f ∷ t)) (sym front) parted
    ∙ row_value (l - j) (n - 1 - l) a b k f (get_or (drop j xs) (l - j) (pos 0)) (take j xs) (take (l - j) (drop j xs)) (drop (suc (l - j)) (drop j xs)) mid
    ∙ ap (λ z. k +ℤ (a *ℤ f +ℤ b *ℤ z)) same

at_least : (z : ℤ) → int_le (pos 0) z ≡ true → pos 0 ≤ℤ z
at_least z h = grind (arith, ints)

least_at : (z : ℤ) → pos 0 ≤ℤ z → int_le (pos 0) z ≡ true
least_at z h = grind (arith, ints)

-- both rows hold exactly at the number of the tile

pub rows_tile : (n j l t : ℕ) (f : ℤ) (xs : List ℤ) → length xs ≡ n → j ≤ l → l < n → IsTrue (all_hold (tile_rows n j l t) (inserted j f xs)) → f ≡ int_div_euclid (get_or xs l (pos 0)) (pos t)
rows_tile n j l t f xs e h m holds =
    let p = and_parts _ _ holds in
    let q = and_parts _ _ p.1 in
    let low = subst (λ z. int_le (pos 0) z ≡ true) (two_value n j l (neg_ℤ (pos t)) (pos 1) (pos 0) f xs e h m) p.0 in
    let high = subst (λ z. int_le (pos 0) z ≡ true) (two_value n j l (pos t) (negsuc 0) (pos t -ℤ pos 1) f xs e h m) q.0 in
    in_tile t (get_or xs l (pos 0)) f (at_least _ low) (at_least _ high)

pub tile_rows_hold : (n j l t : ℕ) (f : ℤ) (xs : List ℤ) → length xs ≡ n → j ≤ l → l < n → 0 < t → f ≡ int_div_euclid (get_or xs l (pos 0)) (pos t) → IsTrue (all_hold (tile_rows n j l t) (inserted j f xs))
tile_rows_hold n j l t f xs e h m some is =
    let b = tile_in t (get_or xs l (pos 0)) f some is in
    and_from _ _ (subst (λ z. int_le (pos 0) z ≡ true) (sym (two_value n j l (neg_ℤ (pos t)) (pos 1) (pos 0) f xs e h m)) (least_at _ b.0))
    (and_from _ _ (subst (λ z. int_le (pos 0) z ≡ true) (sym (two_value n j l (pos t) (negsuc 0) (pos t -ℤ pos 1) f xs e h m)) (least_at _ b.1)) refl)

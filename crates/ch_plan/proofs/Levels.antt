-- The levels that two elements share, by places and loop values apart, as a walk keeps them.
use Rattle.std.proofs.Common.{◌≡◌, ap, ap₂, sym, ◌∙◌, refl, ℕ, zero, suc, ◌+◌, ◌-◌, ◌<◌, ◌≤◌, min, ℤ, pos, Bool, true, false, ◌&&◌, nat_eq, if◌then◌else◌, List, [], ◌∷◌, get_or, take, map, length, arith, add-one}
use Rattle.std.specs.Ordering.{int_eq}
use Rattle.std.proofs.lemmas.Bool.Decides.{nat_tests}
use Rattle.std.proofs.lemmas.Int.{ints}
use Rattle.ch_cost.specs.Cost.{kept, turns_begun}
use Rattle.ch_plan.specs.Planned.{at, begun_levels, kept_from, kept_levels, levels_of, same_at}
use Rattle.ch_timed.specs.Vectors.{values, woven}

-- one level in front of all others
kept_behind : (p q : ℕ) (ours theirs : List ℕ) (x y : ℤ) (point last : List ℤ) (n k : ℕ)
    → kept_from (p ∷ ours) (q ∷ theirs) (x ∷ point) (y ∷ last) n (suc k) ≡ suc (kept_from ours theirs point last n k)
kept_behind p q ours theirs x y point last zero k = refl
kept_behind p q ours theirs x y point last (suc n) k =
    by (same_at ours theirs point last k) (rw (add-one, add-one) (kept_behind p q ours theirs x y point last n (suc k)))
  where
    by : (b : Bool) → kept_from (p ∷ ours) (q ∷ theirs) (x ∷ point) (y ∷ last) n (suc k + 1) ≡ suc (kept_from ours theirs point last n (k + 1))
        → (if b then kept_from (p ∷ ours) (q ∷ theirs) (x ∷ point) (y ∷ last) n (suc k + 1) else suc k) ≡ suc (if b then kept_from ours theirs point last n (k + 1) else k)
    by true h = h
    by false h = refl

none_kept : (ours theirs : List ℕ) (point last : List ℤ) → levels_of ours theirs point last ≡ 0 → 0 ≡ kept_levels ours theirs point last
none_kept ours theirs point last e = sym (ap (λ n. kept_from ours theirs point last n 0) e)

same_tests : (p q : ℕ) (x y : ℤ) → (int_eq (pos q) (pos p) && int_eq y x) ≡ (nat_eq p q && int_eq x y)
same_tests p q x y = ap₂ (λ a b. a && b) (naturals p q) (turned x y)
  where
    naturals : (p q : ℕ) → int_eq (pos q) (pos p) ≡ nat_eq p q
    naturals p q = grind (arith, ints, nat_tests)

    turned : (x y : ℤ) → int_eq y x ≡ int_eq x y
    turned x y = grind (arith, ints)

kept_at : (ours theirs : List ℕ) (point last : List ℤ) (n m : ℕ) → n ≡ length theirs - 1 → m ≡ length ours - 1
    → kept (woven (map pos theirs) (take n last)) (woven (map pos ours) (take m point)) ≡ kept_levels ours theirs point last
kept_at ours [] point last n m e f = none_kept ours [] point last (omega arith)
kept_at ours (q ∷ []) point last zero m e f = none_kept ours (q ∷ []) point last (omega arith)
kept_at ours (q ∷ []) point last (suc n) m e f = absurd (omega arith)
kept_at ours (q ∷ r ∷ theirs) point last zero m e f = absurd (omega arith)
kept_at ours (q ∷ r ∷ theirs) point [] (suc n) m e f = none_kept ours (q ∷ r ∷ theirs) point [] (omega arith)
kept_at [] (q ∷ r ∷ theirs) point (y ∷ last) (suc n) m e f = none_kept [] (q ∷ r ∷ theirs) point (y ∷ last) (omega arith)
kept_at (p ∷ []) (q ∷ r ∷ theirs) point (y ∷ last) (suc n) zero e f = none_kept (p ∷ []) (q ∷ r ∷ theirs) point (y ∷ last) (omega arith)
kept_at (p ∷ []) (q ∷ r ∷ theirs) point (y ∷ last) (suc n) (suc m) e f = absurd (omega arith)
kept_at (p ∷ s ∷ ours) (q ∷ r ∷ theirs) point (y ∷ last) (suc n) zero e f = absurd (omega arith)
kept_at (p ∷ s ∷ ours) (q ∷ r ∷ theirs) [] (y ∷ last) (suc n) (suc m) e f = none_kept (p ∷ s ∷ ours) (q ∷ r ∷ theirs) [] (y ∷ last) (omega arith)
kept_at (p ∷ s ∷ ours) (q ∷ r ∷ theirs) (x ∷ point) (y ∷ last) (suc n) (suc m) e f =
    let more = kept_at (s ∷ ours) (r ∷ theirs) point last n m (omega arith) (omega arith) in
    let k : ℕ = levels_of (s ∷ ours) (r ∷ theirs) point last in
    let levels : levels_of (p ∷ s ∷ ours) (q ∷ r ∷ theirs) (x ∷ point) (y ∷ last) ≡ suc k = omega arith in
    let behind : kept_from (p ∷ s ∷ ours) (q ∷ r ∷ theirs) (x ∷ point) (y ∷ last) k 1 ≡ suc (kept_levels (s ∷ ours) (r ∷ theirs) point last) =
    kept_behind p q (s ∷ ours) (r ∷ theirs) x y point last k 0 in
    let a : kept (woven (map pos (q ∷ r ∷ theirs)) (take (suc n) (y ∷ last))) (woven (map pos (p ∷ s ∷ ours)) (take (suc m) (x ∷ point)))
    ≡ (if int_eq (pos q) (pos p) && int_eq y x then suc (kept_levels (s ∷ ours) (r ∷ theirs) point last) else 0) =
    ap (λ z. if int_eq (pos q) (pos p) && int_eq y x then suc z else 0) more in
    let b = ap (λ (t : Bool). if t then suc (kept_levels (s ∷ ours) (r ∷ theirs) point last) else 0) (same_tests p q x y) in
    let c : (if nat_eq p q && int_eq x y then suc (kept_levels (s ∷ ours) (r ∷ theirs) point last) else 0)
    ≡ (if nat_eq p q && int_eq x y then kept_from (p ∷ s ∷ ours) (q ∷ r ∷ theirs) (x ∷ point) (y ∷ last) k 1 else 0) =
    ap (λ z. if nat_eq p q && int_eq x y then z else 0) (sym behind) in
    a ∙ b ∙ c ∙ sym (ap (λ z. kept_from (p ∷ s ∷ ours) (q ∷ r ∷ theirs) (x ∷ point) (y ∷ last) z 0) levels)

pub kept_is : (ours theirs : List ℕ) (point last : List ℤ)
    → kept (woven (map pos theirs) (take (length theirs - 1) last)) (woven (map pos ours) (take (length ours - 1) point)) ≡ kept_levels ours theirs point last
kept_is ours theirs point last = kept_at ours theirs point last (length theirs - 1) (length ours - 1) refl refl

pub values_woven : (ps xs : List ℤ) → length ps ≡ suc (length xs) → values (woven ps xs) ≡ xs
values_woven [] xs e = absurd (omega arith)
values_woven (p ∷ []) [] e = refl
values_woven (p ∷ q ∷ ps) [] e = absurd (omega arith)
values_woven (p ∷ ps) (x ∷ xs) e = ap (λ zs. x ∷ zs) (values_woven ps xs (omega arith))

length_places : (ps : List ℕ) → length (map pos ps) ≡ length ps
length_places [] = refl
length_places (p ∷ ps) = ap suc (length_places ps)

-- the turns that begin at an element, by what the walk compares
pub begun_is : (ours theirs : List ℕ) (point last xs vector : List ℤ) → length ours ≡ suc (length xs) → xs ≡ take (length ours - 1) point
    → vector ≡ woven (map pos theirs) (take (length theirs - 1) last) → begun_levels ours theirs point last ≡ turns_begun vector (woven (map pos ours) xs)
begun_is ours theirs point last xs vector e t v =
    let vs : values (woven (map pos ours) xs) ≡ xs = values_woven (map pos ours) xs (length_places ours ∙ e) in
    let k : kept vector (woven (map pos ours) xs) ≡ kept_levels ours theirs point last = ap₂ (λ a b. kept a (woven (map pos ours) b)) v t ∙ kept_is ours theirs point last in
    let depth : length ours - 1 ≡ length (values (woven (map pos ours) xs)) = omega (arith, e, ap length vs) in
    ap₂ (λ a b. a - b) depth (sym k)

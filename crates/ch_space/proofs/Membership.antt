-- What stands in the lists of points, of instances and of elements.
use Rattle.std.proofs.Common.{◌≡◌, refl, sym, ap, ap₂, ◌∙◌, subst, ℕ, zero, suc, ℤ, pos, ◌+ℤ◌, ◌-ℤ◌, ◌≤ℤ◌, ◌<ℤ◌, Bool, true, false, ◌&&◌, cond, List, [], ◌∷◌, ◌++◌, map, length, take, ◌⊎◌, inl, inr, int_eq, arith}
use Rattle.std.specs.List.{filter, flat_map, list_any}
use Rattle.std.proofs.lemmas.Int.{ints, by_lt_z}
use Rattle.std.proofs.lemmas.Bool.{both_ways, or_cases, or_left, or_right}
use Rattle.ch_affine.specs.declared.system.Range.{Range}
use Rattle.ch_poly.specs.Points.{upwards, natural, numbers, box_points, points, begins, begins_some}
use Rattle.ch_poly.proofs.Firsts.{InBox, count_within, count_reaches}
use Rattle.ch_timed.specs.Members.{In}
use Rattle.ch_timed.proofs.Orders.{map_in, in_map}
use Rattle.ch_space.specs.declared.piece.Piece.{Piece}
use Rattle.ch_space.specs.Pieces.{instances}

pub in_append : {X : Type 0} (xs ys : List X) (z : X) → In z (xs ++ ys) → In z xs ⊎ In z ys
in_append [] ys z i = inr i
in_append (x ∷ xs) ys z (inl k) = inl (inl k)
in_append (x ∷ xs) ys z (inr i) = elim (in_append xs ys z i) [ inl j ↦ inl (inr j) | inr j ↦ inr j ]

pub append_left : {X : Type 0} (xs ys : List X) (z : X) → In z xs → In z (xs ++ ys)
append_left [] ys z i = absurd i
append_left (x ∷ xs) ys z (inl k) = inl k
append_left (x ∷ xs) ys z (inr i) = inr (append_left xs ys z i)

pub append_right : {X : Type 0} (xs ys : List X) (z : X) → In z ys → In z (xs ++ ys)
append_right [] ys z i = i
append_right (x ∷ xs) ys z i = inr (append_right xs ys z i)

pub in_flat : {X Y : Type 0} (f : X → List Y) (xs : List X) (y : Y) → In y (flat_map f xs) → (x : X) × (In x xs × In y (f x))
in_flat f [] y i = absurd i
in_flat f (x ∷ xs) y i = elim (in_append (f x) (flat_map f xs) y i) [
  | inl j ↦ (x, (inl refl, j))
  | inr j ↦ let r = in_flat f xs y j in (r.0, (inr r.1.0, r.1.1))
]

pub flat_in : {X Y : Type 0} (f : X → List Y) (xs : List X) (x : X) (y : Y) → In x xs → In y (f x) → In y (flat_map f xs)
flat_in f [] x y i j = absurd i
flat_in f (z ∷ zs) x y (inl k) j = append_left (f z) (flat_map f zs) y (subst (λ w. In y (f w)) (sym k) j)
flat_in f (z ∷ zs) x y (inr i) j = append_right (f z) (flat_map f zs) y (flat_in f zs x y i j)

kept_in : {X : Type 0} (b : Bool) (t : X → Bool) (x y : X) (rest : List X) → t y ≡ b → In x (cond b (y ∷ rest) rest) → ((y ≡ x) × (t y ≡ true)) ⊎ In x rest
kept_in true t x y rest e (inl k) = inl (k, e)
kept_in true t x y rest e (inr i) = inr i
kept_in false t x y rest e i = inr i

pub in_filter : {X : Type 0} (t : X → Bool) (xs : List X) (x : X) → In x (filter t xs) → In x xs × (t x ≡ true)
in_filter t [] x i = absurd i
in_filter t (y ∷ ys) x i = elim (kept_in (t y) t x y (filter t ys) refl i) [
  | inl k ↦ (inl k.0, subst (λ z. t z ≡ true) k.0 k.1)
  | inr j ↦ let r = in_filter t ys x j in (inr r.0, r.1)
]

keeps : {X : Type 0} (b : Bool) (x y : X) (rest : List X) → In x rest → In x (cond b (y ∷ rest) rest)
keeps true x y rest i = inr i
keeps false x y rest i = i

pub filter_in : {X : Type 0} (t : X → Bool) (xs : List X) (x : X) → In x xs → t x ≡ true → In x (filter t xs)
filter_in t [] x i e = absurd i
filter_in t (y ∷ ys) x (inl k) e = let f : t y ≡ true = ap t k ∙ e in rw f (inl k)
filter_in t (y ∷ ys) x (inr i) e = keeps (t y) x y (filter t ys) (filter_in t ys x i e)

pub any_from : {X : Type 0} (t : X → Bool) (xs : List X) → list_any t xs ≡ true → (x : X) × (In x xs × (t x ≡ true))
any_from t [] e = absurd (both_ways _ refl e)
any_from t (x ∷ xs) e = elim (or_cases (t x) _ e) [
  | inl f ↦ (x, (inl refl, f))
  | inr f ↦ let r = any_from t xs f in (r.0, (inr r.1.0, r.1.1))
]

pub any_in : {X : Type 0} (t : X → Bool) (xs : List X) (x : X) → In x xs → t x ≡ true → list_any t xs ≡ true
any_in t [] x i e = absurd i
any_in t (y ∷ ys) x (inl s) e = or_left _ _ (subst (λ z. t z ≡ true) (sym s) e)
any_in t (y ∷ ys) x (inr i) e = or_right _ _ (any_in t ys x i e)

in_upwards : (n : ℕ) (low x : ℤ) → In x (upwards n low) → (low ≤ℤ x) × (x <ℤ (low +ℤ pos n))
in_upwards zero low x i = absurd i
in_upwards (suc n) low x (inl k) = (omega (arith, ints), omega (arith, ints))
in_upwards (suc n) low x (inr i) = let r = in_upwards n (low +ℤ pos 1) x i in (omega (arith, ints), omega (arith, ints))

upwards_in : (n : ℕ) (low x : ℤ) → low ≤ℤ x → x <ℤ (low +ℤ pos n) → In x (upwards n low)
upwards_in zero low x l h = absurd (omega (arith, ints))
upwards_in (suc n) low x l h = by_lt_z low x (λ b. inr (upwards_in n (low +ℤ pos 1) x (omega (arith, ints)) (omega (arith, ints)))) (λ b. inl (omega (arith, ints)))

pub in_box_points : (rs : List Range) (xs : List ℤ) → In xs (box_points rs) → InBox rs xs
in_box_points [] [] i = tt
in_box_points [] (x ∷ xs) (inl k) = cc
in_box_points [] (x ∷ xs) (inr i) = absurd i
in_box_points (r ∷ rs) xs i =
    let p = in_flat (λ x. map (λ p. x ∷ p) (box_points rs)) (numbers r) xs i in
    let q = in_map (λ ys. p.0 ∷ ys) (box_points rs) xs p.1.1 in
    let b = in_upwards (natural ((r.high +ℤ pos 1) -ℤ r.low)) r.low p.0 p.1.0 in
    subst (InBox (r ∷ rs)) q.1.1 (b.0, count_within r.low r.high p.0 b.0 b.1, in_box_points rs q.0 q.1.0)

pub box_points_in : (rs : List Range) (xs : List ℤ) → InBox rs xs → In xs (box_points rs)
box_points_in [] [] b = inl refl
box_points_in [] (x ∷ xs) b = absurd b
box_points_in (r ∷ rs) [] b = absurd b
box_points_in (r ∷ rs) (x ∷ xs) b =
    flat_in (λ x. map (λ p. x ∷ p) (box_points rs)) (numbers r) x (x ∷ xs)
    (upwards_in (natural ((r.high +ℤ pos 1) -ℤ r.low)) r.low x b.0 (count_reaches r.low r.high x b.0 b.1))
    (map_in (λ ys. x ∷ ys) (box_points rs) xs (box_points_in rs xs b.2))

pub length_inside : (rs : List Range) (xs : List ℤ) → InBox rs xs → length xs ≡ length rs
length_inside [] [] b = refl
length_inside [] (x ∷ xs) b = absurd b
length_inside (r ∷ rs) [] b = absurd b
length_inside (r ∷ rs) (x ∷ xs) b = ap suc (length_inside rs xs b.2)

pub inside_take : (n : ℕ) (rs : List Range) (xs : List ℤ) → InBox rs xs → InBox (take n rs) (take n xs)
inside_take zero rs xs b = tt
inside_take (suc n) [] [] b = tt
inside_take (suc n) [] (x ∷ xs) b = absurd b
inside_take (suc n) (r ∷ rs) [] b = absurd b
inside_take (suc n) (r ∷ rs) (x ∷ xs) b = (b.0, b.1, inside_take n rs xs b.2)

same_ints : (x y : ℤ) → int_eq x y ≡ true → x ≡ y
same_ints x y t = grind (arith, ints)

ints_same : (x : ℤ) → int_eq x x ≡ true
ints_same x = grind (arith, ints)

both_true : (a b : Bool) → (a && b) ≡ true → (a ≡ true) × (b ≡ true)
both_true true b t = (refl, t)
both_true false b t = cc

-- what a point begins with is its first values
pub begins_take : (xs ps : List ℤ) → begins xs ps ≡ true → take (length xs) ps ≡ xs
begins_take [] ps t = refl
begins_take (x ∷ xs) [] t = cc
begins_take (x ∷ xs) (p ∷ ps) t =
    let r = both_true (int_eq x p) (begins xs ps) t in
    ap₂ (λ h more. h ∷ more) (sym (same_ints x p r.0)) (begins_take xs ps r.1)

pub take_begins : (n : ℕ) (ps : List ℤ) → begins (take n ps) ps ≡ true
take_begins zero ps = refl
take_begins (suc n) [] = refl
take_begins (suc n) (p ∷ ps) = ap (λ t. t && begins (take n ps) ps) (ints_same p) ∙ take_begins n ps

-- a vector that begins a point of the piece's system
pub record IsInstance (p : Piece) (xs : List ℤ) : Type 0 where
  pub inside : InBox (take p.levels p.system.boxes) xs
  pub point : List ℤ
  pub is_point : In point (points p.system)
  pub front : begins xs point ≡ true

pub in_instances : (p : Piece) (xs : List ℤ) → In xs (instances p) → IsInstance p xs
in_instances p xs i =
    let f = in_filter (begins_some p.system) (box_points (take p.levels p.system.boxes)) xs i in
    let a = any_from (begins xs) (points p.system) f.1 in
    record { inside = in_box_points (take p.levels p.system.boxes) xs f.0; point = a.0; is_point = a.1.0; front = a.1.1 }

pub instances_in : (p : Piece) (xs : List ℤ) → IsInstance p xs → In xs (instances p)
instances_in p xs s =
    filter_in (begins_some p.system) (box_points (take p.levels p.system.boxes)) xs (box_points_in (take p.levels p.system.boxes) xs s.inside)
    (any_in (begins xs) (points p.system) s.point s.is_point s.front)

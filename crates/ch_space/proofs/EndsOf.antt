-- The first and the last instance of a piece, from the least points of its system and of the negated one.
use Rattle.std.proofs.Common.{◌≡◌, ◌≢◌, refl, sym, ap, ap₂, ◌∙◌, subst, ℕ, zero, suc, ◌+◌, ◌<◌, ◌≤◌, ◌^◌, ℤ, pos, neg_ℤ, Some, None, List, [], ◌∷◌, ◌++◌, map, length, take, inl, inr, get_or, Result, Ok, Err, IfOk, arith, length-take-le}
use Rattle.std.specs.declared.alloc.AllocError.{AllocError}
use Rattle.std.specs.List.{All, flat_map}
use Rattle.std.specs.Ordering.{int_cmp, ordering_then}
use Rattle.std.specs.declared.cmp.Ordering.{Ordering}
use Rattle.std.specs.declared.cmp.Ordering.TheVariants.{Less, Equal, Greater}
use Rattle.std.specs.Cmp.{tied_itself, int_cmp_total}
use Rattle.std.specs.Cmp.Lexicographic.{slice_cmp}
use Rattle.std.proofs.lemmas.List.Elements.{All-take, All-head, All-tail, All-weaker}
use Rattle.std.proofs.lemmas.List.{length-map, get_or-map, map_more}
use Rattle.ch_affine.specs.Affine.{IsAtMost, value}
use Rattle.ch_affine.specs.Rows.{Rows, IsSystem, IsBox, all_hold}
use Rattle.ch_affine.specs.Form.{Form}
use Rattle.ch_poly.specs.Points.{first, points, box_points}
use Rattle.ch_timed.specs.Members.{In, Each}
use Rattle.ch_timed.specs.declared.element.Element.{Element}
use Rattle.ch_timed.specs.declared.element.Identity.{Identity}
use Rattle.ch_timed.proofs.Orders.{at_each, map_in, not_both, not_itself}
use Rattle.ch_space.specs.declared.piece.Piece.{Piece}
use Rattle.ch_space.specs.Pieces.{element_at, instances, elements, listed}
use Rattle.ch_space.specs.Following.{UpTo}
use Rattle.ch_space.specs.Keeps.{IsWhole, AreApart}
use Rattle.ch_space.specs.Members.{members, identities, last}
use Rattle.ch_space.specs.Negated.{negatives, negated}
use Rattle.ch_space.proofs.Membership.{in_instances, instances_in, inside_take, begins_take, take_begins}
use Rattle.ch_space.proofs.PieceElements.{ListsAscend, Comes, levels_of, box_ascends, filter_ascends, instances_ascend}
use Rattle.ch_space.proofs.PieceNumbers.{members_are, all_in, listed_in}
use Rattle.ch_space.proofs.Turning.{twice, point_turned, turned_point, point_inside, point_length, opposite, inside_small, point_small}

abbrev itself : List ℤ → List ℤ
itself v = v

first_by : (x m : List ℤ) (rest : List (List ℤ)) → Each (Comes x) rest → In m (x ∷ rest) → UpTo m x → first (x ∷ rest) ≡ Some m
first_by x m rest h i (inl e) = ap (λ z. Some z) (sym e)
first_by x m rest h (inl k) (inr c) = ap (λ z. Some z) k
first_by x m rest h (inr j) (inr c) = absurd (not_both itself m x c (at_each (Comes x) rest h m j))

-- the member that comes before all others is the first
pub first_is : (xs : List (List ℤ)) (m : List ℤ) → ListsAscend xs → In m xs → ((e : List ℤ) → In e xs → UpTo m e) → first xs ≡ Some m
first_is [] m a i h = absurd i
first_is (x ∷ rest) m a i h = first_by x m rest a.0 i (h x (inl refl))

pub last_is : (xs : List (List ℤ)) (m : List ℤ) → ListsAscend xs → In m xs → ((e : List ℤ) → In e xs → UpTo e m) → last xs ≡ Some m
last_is [] m a i h = absurd i
last_is (x ∷ []) m a (inl k) h = ap (λ z. Some z) k
last_is (x ∷ []) m a (inr i) h = absurd i
last_is (x ∷ y ∷ more) m a (inl k) h =
    elim (h y (inr (inl refl))) as (λ _. last (x ∷ y ∷ more) ≡ Some m) [
      | inl e ↦ absurd (not_itself itself x (subst (Comes x) (e ∙ sym k) a.0.0))
      | inr c ↦ absurd (not_both itself x y a.0.0 (subst (Comes y) (sym k) c))
    ]
last_is (x ∷ y ∷ more) m a (inr i) h = last_is (y ∷ more) m a.1 i (λ e j. h e (inr j))

-- the first of an ascending list comes before its members
pub first_before : (xs : List (List ℤ)) (m : List ℤ) → ListsAscend xs → first xs ≡ Some m → (e : List ℤ) → In e xs → UpTo m e
first_before [] m a f e i = absurd i
first_before (x ∷ rest) m a f e (inl k) = let g : x ≡ m = cc in inl (sym g ∙ k)
first_before (x ∷ rest) m a f e (inr i) = let g : x ≡ m = cc in inr (subst (λ z. Comes z e) g (at_each (Comes x) rest a.0 e i))

pub first_in : (xs : List (List ℤ)) (m : List ℤ) → first xs ≡ Some m → In m xs
first_in [] m f = absurd cc
first_in (x ∷ rest) m f = inl cc

take_by : (x y : ℤ) (p q : List ℤ) (o : Ordering) → int_cmp x y ≡ o → ordering_then o (slice_cmp int_cmp p q) ≡ Less → (o ≡ Equal → x ≡ y) → (n : ℕ) → (slice_cmp int_cmp p q ≡ Less → UpTo (take n p) (take n q))
    → UpTo (x ∷ take n p) (y ∷ take n q)
take_by x y p q Less c h s n g = inr (ap (λ o. ordering_then o (slice_cmp int_cmp (take n p) (take n q))) c)
take_by x y p q Equal c h s n g =
    elim (g h) as (λ _. UpTo (x ∷ take n p) (y ∷ take n q)) [
      | inl e ↦ inl (ap₂ (λ u v. u ∷ v) (s refl) e)
      | inr l ↦ inr (ap (λ o. ordering_then o (slice_cmp int_cmp (take n p) (take n q))) c ∙ l)
    ]
take_by x y p q Greater c h s n g = absurd cc

-- the first values of a list that comes before another
take_comes : (n : ℕ) (p q : List ℤ) → length p ≡ length q → Comes p q → UpTo (take n p) (take n q)
take_comes zero p q l h = inl refl
take_comes (suc n) [] [] l h = inl refl
take_comes (suc n) [] (y ∷ q) l h = absurd (omega arith)
take_comes (suc n) (x ∷ p) [] l h = absurd (omega arith)
take_comes (suc n) (x ∷ p) (y ∷ q) l h = take_by x y p q (int_cmp x y) refl h (same_of x y) n (λ k. take_comes n p q (omega arith) k)
  where
    same_of : (x y : ℤ) → int_cmp x y ≡ Equal → x ≡ y
    same_of x y e = Rattle.std.specs.FinMap.int_cmp-IsAntisymmetric x y e

pub take_up_to : (n : ℕ) (p q : List ℤ) → length p ≡ length q → UpTo p q → UpTo (take n p) (take n q)
take_up_to n p q l (inl e) = inl (ap (take n) e)
take_up_to n p q l (inr c) = take_comes n p q l c

pub points_ascend : (s : Rows) → ListsAscend (points s)
points_ascend s = filter_ascends (λ v. v) (all_hold s.rows) (box_points s.boxes) (box_ascends s.boxes)

-- a point begins with an instance
pub front_in : (p : Piece) (q : List ℤ) → In q (points p.system) → In (take p.levels q) (instances p)
front_in p q i =
    instances_in p (take p.levels q) (record { inside = inside_take p.levels p.system.boxes q (point_inside p.system q i); point = q; is_point = i; front = take_begins p.levels q })

-- an instance is what some point begins with
pub front_of : (p : Piece) (xs : List ℤ) → IsWhole p → In xs (instances p) → (q : List ℤ) × (In q (points p.system) × (take p.levels q ≡ xs))
front_of p xs w i =
    let s = in_instances p xs i in
    (s.point, (s.is_point, ap (λ n. take n s.point) (sym (levels_of p xs w i)) ∙ begins_take xs s.point s.front))

pub least_front : (p : Piece) (q : List ℤ) → IsWhole p → first (points p.system) ≡ Some q → first (instances p) ≡ Some (take p.levels q)
least_front p q w f =
    let here = first_in (points p.system) q f in
    first_is (instances p) (take p.levels q) (instances_ascend p) (front_in p q here)
    (λ xs i.
    let r = front_of p xs w i in
    let same : length q ≡ length r.0 = point_length p.system q here ∙ sym (point_length p.system r.0 r.1.0) in
    subst (UpTo (take p.levels q)) r.1.1 (take_up_to p.levels q r.0 same (first_before (points p.system) q (points_ascend p.system) f r.0 r.1.0)))

up_to_negative : (q r : List ℤ) → length q ≡ length r → UpTo q (negatives r) → UpTo r (negatives q)
up_to_negative q r l (inl e) = inl (sym (twice r) ∙ ap negatives (sym e))
up_to_negative q r l (inr c) =
    inr (sym (opposite (negatives q) r (Rattle.std.proofs.lemmas.List.length-map q neg_ℤ ∙ l)) ∙ ap (λ z. slice_cmp int_cmp z (negatives r)) (twice q) ∙ c)

pub greatest_front : (p : Piece) (q : List ℤ) → IsWhole p → first (points (negated p.system)) ≡ Some q → last (instances p) ≡ Some (take p.levels (negatives q))
greatest_front p q w f =
    let here = first_in (points (negated p.system)) q f in
    let there = turned_point p.system q here in
    last_is (instances p) (take p.levels (negatives q)) (instances_ascend p) (front_in p (negatives q) there)
    (λ xs i.
    let r = front_of p xs w i in
    let same : length r.0 ≡ length (negatives q) = point_length p.system r.0 r.1.0 ∙ sym (point_length p.system (negatives q) there) in
    let far : length q ≡ length r.0 = sym (Rattle.std.proofs.lemmas.List.length-map q neg_ℤ) ∙ sym same in
    let before = first_before (points (negated p.system)) q (points_ascend (negated p.system)) f (negatives r.0) (point_turned p.system r.0 r.1.0) in
    subst (λ z. UpTo z (take p.levels (negatives q))) r.1.1 (take_up_to p.levels r.0 (negatives q) same (up_to_negative q r.0 far before)))

pub none_first : (xs : List (List ℤ)) → first xs ≡ None → (e : List ℤ) → In e xs → ⊥
none_first [] f e i = i
none_first (x ∷ xs) f e i = cc

-- a piece with an instance has a point
pub some_point : (p : Piece) → IsWhole p → instances p ≢ [] → first (points p.system) ≡ None → ⊥
some_point p w n f = by (instances p) refl n
  where
    by : (xs : List (List ℤ)) → instances p ≡ xs → xs ≢ [] → ⊥
    by [] e n = n refl
    by (x ∷ xs) e n = let r = front_of p x w (subst (In x) (sym e) (inl refl)) in none_first (points p.system) f r.0 r.1.0

pub some_turned : (p : Piece) → IsWhole p → instances p ≢ [] → first (points (negated p.system)) ≡ None → ⊥
some_turned p w n f = by (instances p) refl n
  where
    by : (xs : List (List ℤ)) → instances p ≡ xs → xs ≢ [] → ⊥
    by [] e n = n refl
    by (x ∷ xs) e n = let r = front_of p x w (subst (In x) (sym e) (inl refl)) in none_first (points (negated p.system)) f (negatives r.0) (point_turned p.system r.0 r.1.0)

first_map : {X Y : Type 0} (f : X → Y) (xs : List X) (x : X) → first xs ≡ Some x → first (map f xs) ≡ Some (f x)
first_map f [] x e = cc
first_map f (y ∷ ys) x e = (let g : y ≡ x = cc in ap (λ z. Some (f z)) g)

last_map : {X Y : Type 0} (f : X → Y) (xs : List X) (x : X) → last xs ≡ Some x → last (map f xs) ≡ Some (f x)
last_map f [] x e = cc
last_map f (y ∷ []) x e = (let g : y ≡ x = cc in ap (λ z. Some (f z)) g)
last_map f (y ∷ z ∷ more) x e = last_map f (z ∷ more) x e

pub last_in : (xs : List (List ℤ)) (m : List ℤ) → last xs ≡ Some m → In m xs
last_in [] m f = absurd cc
last_in (x ∷ []) m f = inl cc
last_in (x ∷ y ∷ more) m f = inr (last_in (y ∷ more) m f)

pub at_all : {X : Type 0} (P : X → Type 0) (xs : List X) (x : X) → All P xs → In x xs → P x
at_all P [] x h i = absurd i
at_all P (y ∷ ys) x h (inl e) = subst P e (All-head P y ys h)
at_all P (y ∷ ys) x h (inr i) = at_all P ys x (All-tail P y ys h) i

pub instance_small : (p : Piece) (xs : List ℤ) → IsSystem p.system → In xs (instances p) → All (IsAtMost (2 ^ 54)) xs
instance_small p xs s i =
    inside_small (take p.levels p.system.boxes) xs (All-take IsBox p.levels p.system.boxes s.each) (in_instances p xs i).inside

pub origin_fits : (p : Piece) (xs : List ℤ) (k : ℕ) (d : Form) → IsWhole p → In xs (instances p) → k < length p.origin → length (get_or p.origin k d).coefs ≡ length xs
origin_fits p xs k d w i h = w.origin k d h ∙ sym (levels_of p xs w i)

pub near_at : (p : Piece) (xs : List ℤ) (k : ℕ) (d : Form) → All (λ e. All (IsAtMost (2 ^ 54)) e.identity.iters) (elements p) → In xs (instances p) → k < length p.origin
    → IsAtMost (2 ^ 54) (value (get_or p.origin k d) xs)
near_at p xs k d n i h =
    let e = at_all (λ e. All (IsAtMost (2 ^ 54)) e.identity.iters) (elements p) (element_at p xs) n (map_in (element_at p) (instances p) xs i) in
    let l : k < length (map (λ f. value f xs) p.origin) = subst (λ m. k < m) (sym (length-map p.origin (λ f. value f xs))) h in
    subst (IsAtMost (2 ^ 54)) (get_or-map (λ f. value f xs) p.origin k d (pos 0) h) (e k (pos 0) l)

pub first_identity : (p : Piece) (xs : List ℤ) → first (instances p) ≡ Some xs → first (identities (elements p)) ≡ Some (element_at p xs).identity
first_identity p xs f = first_map (λ e. e.identity) (elements p) (element_at p xs) (first_map (element_at p) (instances p) xs f)

pub last_identity : (p : Piece) (xs : List ℤ) → last (instances p) ≡ Some xs → last (identities (elements p)) ≡ Some (element_at p xs).identity
last_identity p xs f = last_map (λ e. e.identity) (elements p) (element_at p xs) (last_map (element_at p) (instances p) xs f)

pub near_in : (ps : List Piece) (p : Piece) → In p ps → All (λ e. All (IsAtMost (2 ^ 54)) e.identity.iters) (listed ps) → All (λ e. All (IsAtMost (2 ^ 54)) e.identity.iters) (elements p)
near_in ps p i n =
    all_in (λ e. All (IsAtMost (2 ^ 54)) e.identity.iters) (elements p)
    (λ e j. at_all (λ e. All (IsAtMost (2 ^ 54)) e.identity.iters) (listed ps) e n (listed_in ps p e i j))

pub few_levels : (p : Piece) (q : List ℤ) → IsWhole p → length q ≡ length p.system.boxes → p.levels ≤ length q
few_levels p q w l = let b = w.boxes in omega arith

-- ends of the piece are those of its members

pub some_ends : (list : List Element) (ps : List Piece) (k : ℕ) (d : Piece) → AreApart ps → listed ps ≡ list → k < length ps → members list k ≡ elements (get_or ps k d)
some_ends list ps k d a e h = ap (λ z. members z k) (sym e) ∙ members_are ps k d a h

-- What the functions want.

pub bound_front : (p : Piece) (q s : List ℤ) → IsWhole p → first (points p.system) ≡ Some q → s ≡ q → p.levels ≡ length (take p.levels s)
bound_front p q s w f e =
    let n = few_levels p q w (point_length p.system q (first_in (points p.system) q f)) in
    sym (length-take-le p.levels s (subst (λ z. p.levels ≤ length z) (sym e) n))

pub least_ok : (p : Piece) (q s : List ℤ) (r : Result (List ℤ) AllocError) → IsWhole p → first (points p.system) ≡ Some q → s ≡ q → IfOk r (λ xs. xs ≡ take p.levels s)
    → IfOk r (λ xs. first (instances p) ≡ Some xs)
least_ok p q s (Ok xs) w f e h = least_front p q w f ∙ ap (λ z. Some z) (sym (h ∙ ap (take p.levels) e))
least_ok p q s (Err o) w f e h = tt

turned_length : (p : Piece) (q : List ℤ) → first (points (negated p.system)) ≡ Some q → length q ≡ length p.system.boxes
turned_length p q f =
    sym (length-map q neg_ℤ) ∙ point_length p.system (negatives q) (turned_point p.system q (first_in (points (negated p.system)) q f))

pub bound_turned : (p : Piece) (t : Rows) (q s : List ℤ) → IsWhole p → t ≡ negated p.system → first (points t) ≡ Some q → s ≡ q → p.levels ≡ length (take p.levels s)
bound_turned p t q s w u f e =
    let n = few_levels p q w (turned_length p q (subst (λ z. first (points z) ≡ Some q) u f)) in
    sym (length-take-le p.levels s (subst (λ z. p.levels ≤ length z) (sym e) n))

take_negatives : (n : ℕ) (q : List ℤ) → negatives (take n q) ≡ take n (negatives q)
take_negatives zero q = refl
take_negatives (suc n) [] = refl
take_negatives (suc n) (x ∷ q) = ap (λ t. neg_ℤ x ∷ t) (take_negatives n q)

pub greatest_ok : (p : Piece) (t : Rows) (q s : List ℤ) (r : Result (List ℤ) AllocError) → IsWhole p → t ≡ negated p.system → first (points t) ≡ Some q → s ≡ q
    → IfOk r (λ xs. xs ≡ negatives (take p.levels s)) → IfOk r (λ xs. last (instances p) ≡ Some xs)
greatest_ok p t q s (Ok xs) w u f e h =
    greatest_front p q w (subst (λ z. first (points z) ≡ Some q) u f) ∙ ap (λ z. Some z) (sym (h ∙ take_negatives p.levels s ∙ ap (λ z. take p.levels (negatives z)) e))
greatest_ok p t q s (Err o) w u f e h = tt

more_than : (x : ℤ) → IsAtMost (2 ^ 54) x → IsAtMost (2 ^ 60) x
more_than x h = omega arith

pub front_small : (t : Rows) (n : ℕ) (q s : List ℤ) → IsSystem t → first (points t) ≡ Some q → s ≡ q → All (IsAtMost (2 ^ 60)) (take n s)
front_small t n q s i f e =
    subst (λ z. All (IsAtMost (2 ^ 60)) (take n z)) (sym e)
    (All-take (IsAtMost (2 ^ 60)) n q (All-weaker (IsAtMost (2 ^ 54)) (IsAtMost (2 ^ 60)) more_than q (point_small t q i (first_in (points t) q f))))

pub no_turned : (p : Piece) (t : Rows) → IsWhole p → instances p ≢ [] → t ≡ negated p.system → first (points t) ≡ None → ⊥
no_turned p t w n u f = some_turned p w n (subst (λ z. first (points z) ≡ None) u f)

pub same_at : (p : Piece) (items : List Form) (xs : List ℤ) (k : ℕ) (d : Form) → IsWhole p → In xs (instances p) → items ≡ p.origin → d ≡ get_or items k d → k < length items → length xs ≡ length d.coefs
same_at p items xs k d w i e f h =
    sym (origin_fits p xs k d w i (subst (λ z. k < length z) e h)) ∙ ap (λ z. length z.coefs) (sym (f ∙ ap (λ z. get_or z k d) e))

pub value_at : (p : Piece) (items : List Form) (xs : List ℤ) (k : ℕ) (d : Form) (v : ℤ) → All (λ e. All (IsAtMost (2 ^ 54)) e.identity.iters) (elements p) → In xs (instances p)
    → items ≡ p.origin → d ≡ get_or items k d → k < length items → v ≡ value d xs → IsAtMost (2 ^ 54) v
value_at p items xs k d v n i e f h u =
    subst (IsAtMost (2 ^ 54)) (ap (λ z. value z xs) (sym (f ∙ ap (λ z. get_or z k d) e)) ∙ sym u) (near_at p xs k d n i (subst (λ z. k < length z) e h))

pub iters_more : (p : Piece) (items : List Form) (xs iters new : List ℤ) (k : ℕ) (d : Form) (u v : ℤ) → items ≡ p.origin → d ≡ get_or items k d → k < length items → v ≡ value d xs
    → iters ≡ map (λ f. value f xs) (take k p.origin) → new ≡ iters ++ u ∷ [] → u ≡ v → new ≡ map (λ f. value f xs) (take (k + 1) p.origin)
iters_more p items xs iters new k d u v e f h a i n b =
    n ∙ ap₂ (λ z w. z ++ w ∷ []) i (b ∙ a ∙ ap (λ z. value z xs) (f ∙ ap (λ z. get_or z k d) e)) ∙ sym (map_more (λ f. value f xs) p.origin k d (subst (λ z. k < length z) e h))

pub first_same : (list : List Element) (ps : List Piece) (k : ℕ) (d : Piece) (r : Result (Identity × Identity) AllocError) → AreApart ps → listed ps ≡ list → k < length ps
    → IfOk r (λ both. first (identities (elements (get_or ps k d))) ≡ Some both.0) → IfOk r (λ both. first (identities (members list k)) ≡ Some both.0)
first_same list ps k d (Ok both) a e h f = ap (λ z. first (identities z)) (some_ends list ps k d a e h) ∙ f
first_same list ps k d (Err o) a e h f = tt

pub last_same : (list : List Element) (ps : List Piece) (k : ℕ) (d : Piece) (r : Result (Identity × Identity) AllocError) → AreApart ps → listed ps ≡ list → k < length ps
    → IfOk r (λ both. last (identities (elements (get_or ps k d))) ≡ Some both.1) → IfOk r (λ both. last (identities (members list k)) ≡ Some both.1)
last_same list ps k d (Ok both) a e h f = ap (λ z. last (identities z)) (some_ends list ps k d a e h) ∙ f
last_same list ps k d (Err o) a e h f = tt

-- The elements of pieces: a vector names its piece and its instance, and a piece's elements stand in the order of their vectors.
use Rattle.std.proofs.Common.{◌≡◌, refl, sym, ap, ap₂, ◌∙◌, subst, ℕ, zero, suc, ◌+◌, ℤ, pos, ◌+ℤ◌, ◌-ℤ◌, ◌≤ℤ◌, ◌<ℤ◌, Bool, true, false, cond, List, [], ◌∷◌, ◌++◌, map, length, take, inl, inr, arith, length-take-le}
use Rattle.std.specs.List.{filter, flat_map}
use Rattle.std.specs.Ordering.{int_cmp, ordering_then}
use Rattle.std.specs.declared.cmp.Ordering.TheVariants.{Less}
use Rattle.std.specs.Cmp.{tied_itself, int_cmp_total}
use Rattle.std.specs.Cmp.Lexicographic.{slice_cmp, lists_total}
use Rattle.std.proofs.lemmas.Int.{ints}
use Rattle.ch_affine.specs.declared.system.Range.{Range}
use Rattle.ch_poly.specs.Points.{upwards, natural, box_points, begins_some}
use Rattle.ch_timed.specs.Members.{In, Each}
use Rattle.ch_timed.specs.declared.element.Element.{Element}
use Rattle.ch_timed.specs.Vectors.{places, values, woven}
use Rattle.ch_timed.proofs.Blocks.{int_less}
use Rattle.ch_timed.proofs.Orders.{IsAscending, each_more, at_each, in_map}
use Rattle.ch_space.specs.declared.piece.Piece.{Piece}
use Rattle.ch_space.specs.Pieces.{element_at, instances, elements}
use Rattle.ch_space.specs.Keeps.{IsWhole, places_of, AllLater, AreApart}
use Rattle.ch_space.proofs.Membership.{in_append, in_flat, in_filter, in_instances, length_inside}

pub places_woven : (ps xs : List ℤ) → length ps ≡ length xs + 1 → places (woven ps xs) ≡ ps
places_woven [] xs h = absurd (omega arith)
places_woven (p ∷ []) [] h = refl
places_woven (p ∷ q ∷ ps) [] h = absurd (omega arith)
places_woven (p ∷ ps) (x ∷ xs) h = ap (λ t. p ∷ t) (places_woven ps xs (omega arith))

pub values_woven : (ps xs : List ℤ) → length ps ≡ length xs + 1 → values (woven ps xs) ≡ xs
values_woven [] xs h = absurd (omega arith)
values_woven (p ∷ []) [] h = refl
values_woven (p ∷ q ∷ ps) [] h = absurd (omega arith)
values_woven (p ∷ ps) (x ∷ xs) h = ap (λ t. x ∷ t) (values_woven ps xs (omega arith))

pub length_pos : (ps : List ℕ) → length (map pos ps) ≡ length ps
length_pos [] = refl
length_pos (p ∷ ps) = ap suc (length_pos ps)

pub levels_of : (p : Piece) (xs : List ℤ) → IsWhole p → In xs (instances p) → length xs ≡ p.levels
levels_of p xs w i =
    let s = in_instances p xs i in
    let h = w.boxes in
    length_inside (take p.levels p.system.boxes) xs s.inside ∙ length-take-le p.levels p.system.boxes (omega arith)

pub long : (p : Piece) (xs : List ℤ) → IsWhole p → In xs (instances p) → length (places_of p) ≡ length xs + 1
long p xs w i = length_pos p.places ∙ w.places ∙ ap (λ n. n + 1) (sym (levels_of p xs w i))

pub element_places : (p : Piece) (xs : List ℤ) → IsWhole p → In xs (instances p) → places (element_at p xs).vector ≡ places_of p
element_places p xs w i = places_woven (places_of p) xs (long p xs w i)

pub element_values : (p : Piece) (xs : List ℤ) → IsWhole p → In xs (instances p) → values (element_at p xs).vector ≡ xs
element_values p xs w i = values_woven (places_of p) xs (long p xs w i)

pub later_in : (ps : List ℤ) (qs : List Piece) (q : Piece) → AllLater ps qs → In q qs → slice_cmp int_cmp ps (places_of q) ≡ Less
later_in ps [] q d i = absurd i
later_in ps (r ∷ rs) q d (inl k) = subst (λ z. slice_cmp int_cmp ps (places_of z) ≡ Less) k d.0
later_in ps (r ∷ rs) q d (inr i) = later_in ps rs q d.1 i

pub never : (ps qs : List ℤ) → slice_cmp int_cmp ps qs ≡ Less → ps ≡ qs → ⊥
never ps qs h e = let k = tied_itself (lists_total int_cmp_total) ps in let l = subst (λ z. slice_cmp int_cmp ps z ≡ Less) (sym e) h in cc

pub same_piece : (ps : List Piece) (p q : Piece) → AreApart ps → In p ps → In q ps → places_of p ≡ places_of q → p ≡ q
same_piece [] p q a i j h = absurd i
same_piece (r ∷ rs) p q a (inl k) (inl l) h = sym k ∙ l
same_piece (r ∷ rs) p q a (inl k) (inr j) h = absurd (never _ _ (later_in (places_of r) rs q a.2 j) (ap places_of k ∙ h))
same_piece (r ∷ rs) p q a (inr i) (inl l) h = absurd (never _ _ (later_in (places_of r) rs p a.2 i) (ap places_of l ∙ sym h))
same_piece (r ∷ rs) p q a (inr i) (inr j) h = same_piece rs p q a.3 i j h

pub whole_in : (ps : List Piece) (p : Piece) → AreApart ps → In p ps → IsWhole p
whole_in [] p a i = absurd i
whole_in (r ∷ rs) p a (inl k) = subst IsWhole k a.0
whole_in (r ∷ rs) p a (inr i) = whole_in rs p a.3 i

-- the piece and the instance of an element
pub record StandsFor (ps : List Piece) (e : Element) : Type 0 where
  pub piece : Piece
  pub is_piece : In piece ps
  pub instance : List ℤ
  pub is_instance : In instance (instances piece)
  pub is : element_at piece instance ≡ e

pub in_stands : (ps : List Piece) (e : Element) → In e (flat_map elements ps) → StandsFor ps e
in_stands ps e i =
    let p = in_flat elements ps e i in
    let x = in_map (element_at p.0) (instances p.0) e p.1.1 in
    record { piece = p.0; is_piece = p.1.0; instance = x.0; is_instance = x.1.0; is = x.1.1 }

-- elements at one vector are one
abbrev pub OneEach : List Element → Type 0
OneEach es = (e f : Element) → In e es → In f es → e.vector ≡ f.vector → e ≡ f

pub one_each : (ps : List Piece) → AreApart ps → OneEach (flat_map elements ps)
one_each ps a e f i j v =
    let s = in_stands ps e i in
    let t = in_stands ps f j in
    let ws = whole_in ps s.piece a s.is_piece in
    let wt = whole_in ps t.piece a t.is_piece in
    let w : (element_at s.piece s.instance).vector ≡ (element_at t.piece t.instance).vector =
    ap (λ z. z.vector) s.is ∙ v ∙ ap (λ z. z.vector) (sym t.is) in
    let ps_same = sym (element_places s.piece s.instance ws s.is_instance) ∙ ap places w ∙ element_places t.piece t.instance wt t.is_instance in
    let xs_same = sym (element_values s.piece s.instance ws s.is_instance) ∙ ap values w ∙ element_values t.piece t.instance wt t.is_instance in
    let one = same_piece ps s.piece t.piece a s.is_piece t.is_piece ps_same in
    sym s.is ∙ ap₂ element_at one xs_same ∙ t.is

-- Instances and elements in order.

abbrev pub ListsAscend : List (List ℤ) → Type 0
ListsAscend = IsAscending (λ v. v)

abbrev pub Comes : List ℤ → List ℤ → Type 0
Comes xs ys = slice_cmp int_cmp xs ys ≡ Less

pub each_from_in : {X : Type 0} (P : X → Type 0) (xs : List X) → ((x : X) → In x xs → P x) → Each P xs
each_from_in P [] h = tt
each_from_in P (x ∷ xs) h = (h x (inl refl), each_from_in P xs (λ y i. h y (inr i)))

lists_append : (xs ys : List (List ℤ)) → ListsAscend xs → ListsAscend ys → ((x y : List ℤ) → In x xs → In y ys → Comes x y) → ListsAscend (xs ++ ys)
lists_append [] ys a b h = b
lists_append (x ∷ xs) ys a b h = (
  each_from_in (Comes x) (xs ++ ys) (λ z i. elim (in_append xs ys z i) as (λ _. Comes x z) [ inl j ↦ at_each (Comes x) xs a.0 z j | inr j ↦ h x z (inl refl) j ]),
  lists_append xs ys a.1 b (λ y z i j. h y z (inr i) j),
)

pub cons_comes : (x : ℤ) (p q : List ℤ) → Comes p q → Comes (x ∷ p) (x ∷ q)
cons_comes x p q h = ap (λ o. ordering_then o (slice_cmp int_cmp p q)) (tied_itself int_cmp_total x) ∙ h

pub less_comes : (x y : ℤ) (p q : List ℤ) → x <ℤ y → Comes (x ∷ p) (y ∷ q)
less_comes x y p q h = ap (λ o. ordering_then o (slice_cmp int_cmp p q)) (int_less x y h)

each_map : {X Y : Type 0} (P : Y → Type 0) (f : X → Y) (xs : List X) → Each (λ x. P (f x)) xs → Each P (map f xs)
each_map P f [] h = tt
each_map P f (x ∷ xs) h = (h.0, each_map P f xs h.1)

cons_ascends : (x : ℤ) (ps : List (List ℤ)) → ListsAscend ps → ListsAscend (map (λ p. x ∷ p) ps)
cons_ascends x [] a = tt
cons_ascends x (p ∷ ps) a = (each_map (Comes (x ∷ p)) (λ q. x ∷ q) ps (each_more (Comes p) (λ q. Comes (x ∷ p) (x ∷ q)) ps (λ q h. cons_comes x p q h) a.0), cons_ascends x ps a.1)

-- the lists that begin with one of the numbers from low on
later_head : (n : ℕ) (low : ℤ) (ps : List (List ℤ)) (y : List ℤ) → In y (flat_map (λ x. map (λ p. x ∷ p) ps) (upwards n low)) → (x : ℤ) × ((low ≤ℤ x) × ((p : List ℤ) × (x ∷ p ≡ y)))
later_head zero low ps y i = absurd i
later_head (suc n) low ps y i = elim (in_append (map (λ p. low ∷ p) ps) _ y i) [
  | inl j ↦ let r = in_map (λ p. low ∷ p) ps y j in (low, (omega (arith, ints), (r.0, r.1.1)))
  | inr j ↦ let r = later_head n (low +ℤ pos 1) ps y j in (r.0, (let h = r.1.0 in omega (arith, ints), r.1.1))
]

under_ascends : (n : ℕ) (low : ℤ) (ps : List (List ℤ)) → ListsAscend ps → ListsAscend (flat_map (λ x. map (λ p. x ∷ p) ps) (upwards n low))
under_ascends zero low ps a = tt
under_ascends (suc n) low ps a =
    lists_append (map (λ p. low ∷ p) ps) (flat_map (λ x. map (λ p. x ∷ p) ps) (upwards n (low +ℤ pos 1))) (cons_ascends low ps a) (under_ascends n (low +ℤ pos 1) ps a)
    (λ x y i j.
    let r = in_map (λ p. low ∷ p) ps x i in
    let t = later_head n (low +ℤ pos 1) ps y j in
    let h : (low +ℤ pos 1) ≤ℤ t.0 = t.1.0 in
    let k : low <ℤ t.0 = omega (arith, ints) in
    subst (λ z. Comes z y) r.1.1 (subst (Comes (low ∷ r.0)) t.1.1.1 (less_comes low t.0 r.0 t.1.1.0 k)))

pub box_ascends : (rs : List Range) → ListsAscend (box_points rs)
box_ascends [] = (tt, tt)
box_ascends (r ∷ rs) = under_ascends (natural ((r.high +ℤ pos 1) -ℤ r.low)) r.low (box_points rs) (box_ascends rs)

module _ {A : Type 0} (key : A → List ℤ) where
  filter_by : (b : Bool) (t : A → Bool) (x : A) (xs : List A) → Each (λ y. slice_cmp int_cmp (key x) (key y) ≡ Less) (filter t xs) → IsAscending key (filter t xs) → IsAscending key (cond b (x ∷ filter t xs) (filter t xs))
  filter_by true t x xs h a = (h, a)
  filter_by false t x xs h a = a

  pub filter_ascends : (t : A → Bool) (xs : List A) → IsAscending key xs → IsAscending key (filter t xs)
  filter_ascends t [] a = tt
  filter_ascends t (x ∷ xs) a =
      filter_by (t x) t x xs
      (each_from_in _ (filter t xs) (λ y i. at_each (λ y. slice_cmp int_cmp (key x) (key y) ≡ Less) xs a.0 y (in_filter t xs y i).0))
      (filter_ascends t xs a.1)

pub instances_ascend : (p : Piece) → ListsAscend (instances p)
instances_ascend p = filter_ascends (λ v. v) (begins_some p.system) (box_points (take p.levels p.system.boxes)) (box_ascends (take p.levels p.system.boxes))

-- loop values in order make vectors in order
pub woven_same : (ps xs ys : List ℤ) → length ps ≡ length xs + 1 → length xs ≡ length ys → slice_cmp int_cmp (woven ps xs) (woven ps ys) ≡ slice_cmp int_cmp xs ys
woven_same [] xs ys h k = absurd (omega arith)
woven_same (p ∷ ps) [] [] h k = tied_itself (lists_total int_cmp_total) (p ∷ [])
woven_same (p ∷ ps) [] (y ∷ ys) h k = absurd (omega arith)
woven_same (p ∷ ps) (x ∷ xs) [] h k = absurd (omega arith)
woven_same (p ∷ ps) (x ∷ xs) (y ∷ ys) h k =
    ap (λ o. ordering_then o (ordering_then (int_cmp x y) (slice_cmp int_cmp (woven ps xs) (woven ps ys)))) (tied_itself int_cmp_total p)
    ∙ ap (ordering_then (int_cmp x y)) (woven_same ps xs ys (omega arith) (omega arith))

woven_ascend : (p : Piece) (xss : List (List ℤ)) → ((xs : List ℤ) → In xs xss → length xs ≡ p.levels) → length (places_of p) ≡ p.levels + 1 → ListsAscend xss
    → IsAscending (λ e. e.vector) (map (element_at p) xss)
woven_ascend p [] h l a = tt
woven_ascend p (xs ∷ xss) h l a =
    let here = h xs (inl refl) in (
      each_map (λ e. Comes (element_at p xs).vector e.vector) (element_at p) xss
          (each_from_in (λ ys. Comes (element_at p xs).vector (element_at p ys).vector) xss
          (λ ys i. let there = h ys (inr i) in woven_same (places_of p) xs ys (omega arith) (here ∙ sym there) ∙ at_each (Comes xs) xss a.0 ys i)),
      woven_ascend p xss (λ ys i. h ys (inr i)) l a.1,
    )

pub elements_ascend : (p : Piece) → IsWhole p → IsAscending (λ e. e.vector) (elements p)
elements_ascend p w = woven_ascend p (instances p) (λ xs i. levels_of p xs w i) (length_pos p.places ∙ w.places) (instances_ascend p)

-- Piece k of the list is the k-th piece: its places, its elements, and how many these are.
use Rattle.std.proofs.Common.{◌≡◌, ◌≢◌, refl, sym, ap, ap₂, ◌∙◌, subst, ℕ, zero, suc, ◌+◌, ◌<◌, ◌≤◌, ℤ, Bool, true, cond, List, [], ◌∷◌, ◌++◌, map, length, slice_index_or, get_or, inl, inr, arith}
use Rattle.std.specs.List.{All, filter, flat_map, range_with_len, sum, sum_by}
use Rattle.std.specs.Ordering.{int_cmp, is_eq}
use Rattle.std.specs.declared.cmp.Ordering.{Ordering}
use Rattle.std.specs.declared.cmp.Ordering.TheVariants.{Less, Equal, Greater}
use Rattle.std.specs.Cmp.{tied_itself, int_cmp_total}
use Rattle.std.specs.Cmp.Lexicographic.{slice_cmp, lists_total}
use Rattle.std.specs.FinMap.{slice_cmp-IsAntisymmetric, int_cmp-IsAntisymmetric}
use Rattle.std.proofs.lemmas.List.{get_or-map, length-map}
use Rattle.std.proofs.lemmas.List.FromFn.{map-range_with_len_more}
use Rattle.std.proofs.lemmas.List.Elements.{filter-append}
use Rattle.std.proofs.lemmas.List.Concat.{length-flat_map}
use Rattle.std.proofs.lemmas.List.Sums.{sum-map, sum_by-cons}
use Rattle.ch_timed.specs.Members.{In, Each, Pairwise}
use Rattle.ch_timed.specs.declared.element.Element.{Element}
use Rattle.ch_timed.specs.Groups.{piece}
use Rattle.ch_timed.specs.Timed.{pieces}
use Rattle.ch_timed.specs.Vectors.{places, same_numbers}
use Rattle.ch_timed.proofs.Identities.{pairwise_both}
use Rattle.ch_timed.proofs.Orders.{AllDiffer, Differ, IsAscending, ascending_differ, ascending_same, ordered_ascends, ordered_length, from_once, from_order, once_ascends, to_once, to_order, map_in, in_map, at_each}
use Rattle.ch_space.specs.declared.piece.Piece.{Piece}
use Rattle.ch_space.specs.Pieces.{element_at, instances, elements, listed}
use Rattle.ch_space.specs.Keeps.{places_of, AllLater, AreApart}
use Rattle.ch_space.specs.Members.{members, sharing, group}
use Rattle.ch_space.proofs.Membership.{flat_in, in_filter, filter_in}
use Rattle.ch_space.proofs.PieceElements.{each_from_in, whole_in, element_places, elements_ascend, filter_ascends, StandsFor, in_stands, same_piece, later_in, never}

pub some_in : {X : Type 0} (xs : List X) → (xs ≢ []) → (x : X) × In x xs
some_in [] h = absurd (h refl)
some_in (x ∷ xs) h = (x, inl refl)

pub instance_in : (ps : List Piece) (p : Piece) → AreApart ps → In p ps → instances p ≢ []
instance_in [] p a i = absurd i
instance_in (r ∷ rs) p a (inl k) = subst (λ z. instances z ≢ []) k a.1
instance_in (r ∷ rs) p a (inr i) = instance_in rs p a.3 i

later_each : (ps : List ℤ) (qs : List Piece) → AllLater ps qs → Each (λ y. slice_cmp int_cmp ps y ≡ Less) (map places_of qs)
later_each ps [] h = tt
later_each ps (q ∷ qs) h = (h.0, later_each ps qs h.1)

pub places_ascend : (ps : List Piece) → AreApart ps → IsAscending (λ v. v) (map places_of ps)
places_ascend [] a = tt
places_ascend (p ∷ ps) a = (later_each (places_of p) ps a.2, places_ascend ps a.3)

-- an element of a piece stands in the list
pub listed_in : (ps : List Piece) (p : Piece) (e : Element) → In p ps → In e (elements p) → In e (listed ps)
listed_in ps p e i j = to_order (λ e. e.vector) (flat_map elements ps) e (flat_in elements ps p e i j)

pub in_listed : (ps : List Piece) (e : Element) → In e (listed ps) → StandsFor ps e
in_listed ps e i = in_stands ps e (from_order (λ e. e.vector) (flat_map elements ps) e i)

pub stands_places : (ps : List Piece) (e : Element) → AreApart ps → (s : StandsFor ps e) → places e.vector ≡ places_of s.piece
stands_places ps e a s = ap (λ z. places z.vector) (sym s.is) ∙ element_places s.piece s.instance (whole_in ps s.piece a s.is_piece) s.is_instance

-- no two elements stand at one vector
pub elements_differ : (ps : List Piece) → AreApart ps → AllDiffer (λ e. e.vector) (flat_map elements ps)
elements_differ [] a = tt
elements_differ (p ∷ ps) a =
    pairwise_both (Differ (λ e. e.vector)) (elements p) (flat_map elements ps) (ascending_differ (λ e. e.vector) (elements p) (elements_ascend p a.0)) (elements_differ ps a.3)
    (each_from_in _ (elements p) (λ x i. each_from_in _ (flat_map elements ps) (λ y j v.
    let u = in_map (element_at p) (instances p) x i in
    let s = in_stands ps y j in
    let here : places x.vector ≡ places_of p = ap (λ z. places z.vector) (sym u.1.1) ∙ element_places p u.0 a.0 u.1.0 in
    never (places_of p) (places_of s.piece) (later_in (places_of p) ps s.piece a.2 s.is_piece) (sym here ∙ ap places v ∙ stands_places ps y a.3 s))))

pub listed_ascends : (ps : List Piece) → AreApart ps → IsAscending (λ e. e.vector) (listed ps)
listed_ascends ps a = ordered_ascends (λ e. e.vector) (flat_map elements ps) (elements_differ ps a)

-- Where the image of an element tells the element, no two images stand at one vector.
pub images_differ : {A : Type 0} (key : A → List ℤ) (g : A → A) (xs : List A) → AllDiffer key xs → ((x y : A) → In x xs → In y xs → key (g x) ≡ key (g y) → x ≡ y)
    → Pairwise (λ x y. Differ key (g x) (g y)) xs
images_differ key g [] d h = tt
images_differ key g (x ∷ xs) d h = (
  each_from_in _ xs (λ y i v. at_each (Differ key x) xs d.0 y i (ap key (h x y (inl refl) (inr i) v))),
  images_differ key g xs d.1 (λ y z i j. h y z (inr i) (inr j)),
)

pub numbered : (ps : List Piece) → AreApart ps → pieces (listed ps) ≡ map places_of ps
numbered ps a =
    ascending_same (λ v. v) (pieces (listed ps)) (map places_of ps) (once_ascends (map (λ e. places e.vector) (listed ps))) (places_ascend ps a)
    (λ v i.
    let e = in_map (λ e. places e.vector) (listed ps) v (from_once (map (λ e. places e.vector) (listed ps)) v i) in
    let s = in_listed ps e.0 e.1.0 in
    let same : places_of s.piece ≡ v = sym (stands_places ps e.0 a s) ∙ e.1.1 in
    subst (λ z. In z (map places_of ps)) same (map_in places_of ps s.piece s.is_piece))
    (λ v i.
    let p = in_map places_of ps v i in
    let x = some_in (instances p.0) (instance_in ps p.0 a p.1.0) in
    let e = element_at p.0 x.0 in
    let there : In e (listed ps) = listed_in ps p.0 e p.1.0 (map_in (element_at p.0) (instances p.0) x.0 x.1) in
    let same : places e.vector ≡ v = element_places p.0 x.0 (whole_in ps p.0 a p.1.0) x.1 ∙ p.1.1 in
    to_once (map (λ e. places e.vector) (listed ps)) v
    (subst (λ z. In z (map (λ e. places e.vector) (listed ps))) same (map_in (λ e. places e.vector) (listed ps) e there)))

pub how_many : (ps : List Piece) → AreApart ps → length (pieces (listed ps)) ≡ length ps
how_many ps a = ap length (numbered ps a) ∙ length-map ps places_of

pub nth_places : (ps : List Piece) (k : ℕ) (d : Piece) → AreApart ps → k < length ps → piece (listed ps) k ≡ places_of (get_or ps k d)
nth_places ps k d a h = ap (λ pss. slice_index_or pss k []) (numbered ps a) ∙ get_or-map places_of ps k d [] h

pub nth_in : {X : Type 0} (xs : List X) (k : ℕ) (d : X) → k < length xs → In (get_or xs k d) xs
nth_in [] k d h = absurd (omega arith)
nth_in (x ∷ xs) zero d h = inl refl
nth_in (x ∷ xs) (suc k) d h = inr (nth_in xs k d (omega arith))

equal_by : (o : Ordering) → is_eq o ≡ true → o ≡ Equal
equal_by Less h = cc
equal_by Equal h = refl
equal_by Greater h = cc

pub same_lists : (xs ys : List ℤ) → same_numbers xs ys ≡ true → xs ≡ ys
same_lists xs ys h = slice_cmp-IsAntisymmetric int_cmp-IsAntisymmetric xs ys (equal_by (slice_cmp int_cmp xs ys) h)

pub lists_same : (xs ys : List ℤ) → xs ≡ ys → same_numbers xs ys ≡ true
lists_same xs ys e = subst (λ z. same_numbers xs z ≡ true) e (ap is_eq (tied_itself (lists_total int_cmp_total) xs))

members_at : (ps : List Piece) (p : Piece) → AreApart ps → In p ps → filter (λ e. same_numbers (places_of p) (places e.vector)) (listed ps) ≡ elements p
members_at ps p a i =
    let test : Element → Bool = λ e. same_numbers (places_of p) (places e.vector) in
    ascending_same (λ e. e.vector) (filter test (listed ps)) (elements p)
    (filter_ascends (λ e. e.vector) test (listed ps) (listed_ascends ps a))
    (elements_ascend p (whole_in ps p a i))
    (λ e j.
    let f = in_filter test (listed ps) e j in
    let s = in_listed ps e f.0 in
    let one : s.piece ≡ p = same_piece ps s.piece p a s.is_piece i (sym (stands_places ps e a s) ∙ sym (same_lists (places_of p) (places e.vector) f.1)) in
    subst (λ q. In e (elements q)) one (subst (λ z. In z (elements s.piece)) s.is (map_in (element_at s.piece) (instances s.piece) s.instance s.is_instance)))
    (λ e j.
    let x = in_map (element_at p) (instances p) e j in
    let same : places e.vector ≡ places_of p = ap (λ z. places z.vector) (sym x.1.1) ∙ element_places p x.0 (whole_in ps p a i) x.1.0 in
    filter_in test (listed ps) e (listed_in ps p e i j) (lists_same (places_of p) (places e.vector) (sym same)))

pub members_are : (ps : List Piece) (k : ℕ) (d : Piece) → AreApart ps → k < length ps → members (listed ps) k ≡ elements (get_or ps k d)
members_are ps k d a h =
    ap (λ z. filter (λ e. same_numbers z (places e.vector)) (listed ps)) (nth_places ps k d a h) ∙ members_at ps (get_or ps k d) a (nth_in ps k d h)

pub member_count : (ps : List Piece) (counts : List ℕ) (k : ℕ) → AreApart ps → counts ≡ map (λ p. length (instances p)) ps → k < length ps → (d : Piece) → get_or counts k 0 ≡ length (members (listed ps) k)
member_count ps counts k a e h d =
    ap (λ z. get_or z k 0) e ∙ get_or-map (λ p. length (instances p)) ps k d 0 h
    ∙ sym (ap length (members_are ps k d a h) ∙ length-map (instances (get_or ps k d)) (element_at (get_or ps k d)))

-- How long the list is.

each_length : (ps : List Piece) → sum_by (λ p. length (elements p)) ps ≡ sum_by (λ p. length (instances p)) ps
each_length [] = refl
each_length (p ∷ ps) =
    sum_by-cons (λ q. length (elements q)) p ps ∙ ap₂ (λ m n. m + n) (length-map (instances p) (element_at p)) (each_length ps)
    ∙ sym (sum_by-cons (λ q. length (instances q)) p ps)

pub list_length : (ps : List Piece) (counts : List ℕ) → AreApart ps → counts ≡ map (λ p. length (instances p)) ps → sum counts ≡ length (listed ps)
list_length ps counts a e =
    ap sum e ∙ sum-map (λ p. length (instances p)) ps ∙ sym (each_length ps) ∙ sym (length-flat_map elements ps)
    ∙ sym (ordered_length (λ e. e.vector) (flat_map elements ps))

some_length : {X : Type 0} (xs : List X) → xs ≢ [] → 1 ≤ length xs
some_length [] h = absurd (h refl)
some_length (x ∷ xs) h = omega arith

fewer_by : (ps : List Piece) → AreApart ps → length ps ≤ sum_by (λ p. length (instances p)) ps
fewer_by [] a = omega arith
fewer_by (p ∷ ps) a = let h = some_length (instances p) a.1 in let k = fewer_by ps a.3 in let e = sum_by-cons (λ q. length (instances q)) p ps in omega arith

-- there are no more pieces than instances
pub few_pieces : (ps : List Piece) (counts : List ℕ) → AreApart ps → counts ≡ map (λ p. length (instances p)) ps → length ps ≤ sum counts
few_pieces ps counts a e = subst (λ n. length ps ≤ n) (sym (ap sum e ∙ sum-map (λ p. length (instances p)) ps)) (fewer_by ps a)

pub all_in : {X : Type 0} (P : X → Type 0) (xs : List X) → ((x : X) → In x xs → P x) → All P xs
all_in P xs h k d l = h (get_or xs k d) (nth_in xs k d l)

pub labelled : (ps : List Piece) (k : ℕ) (d : Piece) → AreApart ps → k < length ps → All (λ e. e.identity.label ≡ (get_or ps k d).label) (members (listed ps) k)
labelled ps k d a h =
    all_in (λ e. e.identity.label ≡ (get_or ps k d).label) (members (listed ps) k)
    (λ e i.
    let j = subst (λ z. In e z) (members_are ps k d a h) i in
    let x = in_map (element_at (get_or ps k d)) (instances (get_or ps k d)) e j in
    ap (λ z. z.identity.label) (sym x.1.1))

-- Groups.

pub range_more : (a n j : ℕ) → a + n ≡ j → range_with_len a (n + 1) ≡ range_with_len a n ++ j ∷ []
range_more a n j e = sym (map_id (range_with_len a (n + 1))) ∙ map-range_with_len_more (λ k. k) a n j e ∙ ap (λ z. z ++ j ∷ []) (map_id (range_with_len a n))
  where
    map_id : (xs : List ℕ) → map (λ k. k) xs ≡ xs
    map_id [] = refl
    map_id (x ∷ xs) = ap (λ t. x ∷ t) (map_id xs)

pub kept_more : (test : ℕ → Bool) (n : ℕ) (b : Bool) → test n ≡ b → filter test (range_with_len 0 (n + 1)) ≡ filter test (range_with_len 0 n) ++ cond b (n ∷ []) []
kept_more test n b e = ap (filter test) (range_more 0 n n (omega arith)) ∙ filter-append test (range_with_len 0 n) (n ∷ []) ∙ ap (λ t. filter test (range_with_len 0 n) ++ cond t (n ∷ []) []) e

pub group_is : (ps : List Piece) (k level : ℕ) (d : Piece) → AreApart ps → k < length ps → sharing level (places_of (get_or ps k d)) (map places_of ps) ≡ group (listed ps) k level
group_is ps k level d a h =
    ap (λ z. sharing level z (map places_of ps)) (sym (nth_places ps k d a h)) ∙ ap (sharing level (piece (listed ps) k)) (sym (numbered ps a))

pub item_in : {X : Type 0} (xs : List X) (k : ℕ) (x : X) → k < length xs → x ≡ get_or xs k x → In x xs
item_in xs k x h e = subst (λ z. In z xs) (sym e) (nth_in xs k x h)

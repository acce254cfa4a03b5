-- Pieces at the ranks of their places stand for the list with its places closed up.
use Rattle.std.proofs.Common.{◌≡◌, refl, sym, ap, ap₂, ◌∙◌, subst, ℕ, suc, ◌+◌, ◌<◌, ◌≤◌, ◌^◌, ◌*◌, ℤ, pos, IsTrue, List, [], ◌∷◌, ◌++◌, map, length, get_or, set, ◌⊎◌, inl, inr, length-append, arith}
use Rattle.std.specs.List.{All, flat_map}
use Rattle.std.specs.Ordering.{int_cmp}
use Rattle.std.specs.Cmp.Lexicographic.{slice_cmp}
use Rattle.std.proofs.lemmas.List.{map-append}
use Rattle.std.proofs.lemmas.List.Elements.{All-cons, All-head, All-tail}
use Rattle.ch_affine.specs.Affine.{IsAtMost}
use Rattle.ch_timed.specs.Closed.{at_vector, closed_up, ranks}
use Rattle.ch_timed.specs.Members.{Each, In, Pairwise}
use Rattle.ch_timed.specs.Timed.{in_order, is_well_formed}
use Rattle.ch_timed.specs.Vectors.{places, values, woven}
use Rattle.ch_timed.specs.declared.element.Element.{Element}
use Rattle.ch_timed.proofs.ClosedUp.{closed_fine}
use Rattle.ch_timed.proofs.Closing.{ranks_less}
use Rattle.ch_timed.proofs.Orders.{AllDiffer, Differ, retimed, map_in, in_map}
use Rattle.ch_space.specs.declared.piece.Piece.{Piece}
use Rattle.ch_space.specs.Pieces.{element_at, instances, elements, listed}
use Rattle.ch_space.specs.Keeps.{IsWhole, places_of, AllLater, AreApart, IsSpace, IsBody, IsLimited, IsMoveBelow, IsReached, IsWrapped, accesses, most_pieces}
use Rattle.ch_space.specs.Renumbered.{placed, all_placed, AreRanks}
use Rattle.ch_space.proofs.PieceElements.{element_places, element_values, length_pos}
use Rattle.ch_space.proofs.PieceNumbers.{elements_differ, numbered, in_listed, listed_in, all_in}
use Rattle.ch_space.proofs.EndsOf.{at_all}
use Rattle.ch_space.proofs.NextPlaces.{ranks_long}

-- Pieces at their ranks.

pub rank_length : (all : List (List ℤ)) (p : Piece) (c : List ℕ) → map pos c ≡ ranks all [] (places_of p) → length c ≡ length p.places
rank_length all p c e = sym (length_pos c) ∙ ap length e ∙ ranks_long all [] (places_of p) ∙ length_pos p.places

whole_placed : (all : List (List ℤ)) (p : Piece) (c : List ℕ) → map pos c ≡ ranks all [] (places_of p) → IsWhole p → IsWhole (placed p c)
whole_placed all p c e w = record { places = rank_length all p c e ∙ w.places; variables = w.variables; boxes = w.boxes; origin = w.origin }

later_placed : (all : List (List ℤ)) (p : Piece) (c : List ℕ) (qs : List Piece) (ds : List (List ℕ)) → map pos c ≡ ranks all [] (places_of p) → In (places_of p) all
    → ((q : Piece) → In q qs → In (places_of q) all) → AreRanks all qs ds → AllLater (places_of p) qs → AllLater (map pos c) (all_placed qs ds)
later_placed all p c [] ds e i j r l = tt
later_placed all p c (q ∷ qs) [] e i j r l = absurd r
later_placed all p c (q ∷ qs) (d ∷ ds) e i j r l = (
  ap₂ (slice_cmp int_cmp) e r.0 ∙ ranks_less all [] (places_of p) (places_of q) i (j q (inl refl)) l.0,
  later_placed all p c qs ds e i (λ q k. j q (inr k)) r.1 l.1,
)

pub apart_placed : (all : List (List ℤ)) (ps : List Piece) (cs : List (List ℕ)) → ((q : Piece) → In q ps → In (places_of q) all) → AreRanks all ps cs → AreApart ps → AreApart (all_placed ps cs)
apart_placed all [] cs j r a = tt
apart_placed all (p ∷ ps) [] j r a = absurd r
apart_placed all (p ∷ ps) (c ∷ cs) j r a =
    (whole_placed all p c r.0 a.0, a.1, later_placed all p c ps cs r.0 (j p (inl refl)) (λ q k. j q (inr k)) r.1 a.2, apart_placed all ps cs (λ q k. j q (inr k)) r.1 a.3)

-- the element at the ranks
abbrev ranked : List (List ℤ) → Element → Element
ranked all e = at_vector e (woven (ranks all [] (places e.vector)) (values e.vector))

ranked_element : (all : List (List ℤ)) (p : Piece) (c : List ℕ) (xs : List ℤ) → IsWhole p → In xs (instances p) → map pos c ≡ ranks all [] (places_of p) → ranked all (element_at p xs) ≡ element_at (placed p c) xs
ranked_element all p c xs w i e =
    ap₂ (λ ps vs. at_vector (element_at p xs) (woven (ranks all [] ps) vs)) (element_places p xs w i) (element_values p xs w i)
    ∙ ap (λ ps. at_vector (element_at p xs) (woven ps xs)) (sym e)

elements_ranked : (all : List (List ℤ)) (p : Piece) (c : List ℕ) (xss : List (List ℤ)) → ((xs : List ℤ) → In xs xss → ranked all (element_at p xs) ≡ element_at (placed p c) xs)
    → map (element_at (placed p c)) xss ≡ map (ranked all) (map (element_at p) xss)
elements_ranked all p c [] h = refl
elements_ranked all p c (xs ∷ xss) h = ap₂ (λ e es. e ∷ es) (sym (h xs (inl refl))) (elements_ranked all p c xss (λ ys i. h ys (inr i)))

all_ranked : (all : List (List ℤ)) (ps : List Piece) (cs : List (List ℕ)) → AreRanks all ps cs → AreApart ps → flat_map elements (all_placed ps cs) ≡ map (ranked all) (flat_map elements ps)
all_ranked all [] cs r a = refl
all_ranked all (p ∷ ps) [] r a = absurd r
all_ranked all (p ∷ ps) (c ∷ cs) r a =
    ap₂ (λ es fs. es ++ fs) (elements_ranked all p c (instances p) (λ xs i. ranked_element all p c xs a.0 i r.0)) (all_ranked all ps cs r.1 a.3)
    ∙ sym (map-append (ranked all) (elements p) (flat_map elements ps))

each_image : {X Y : Type 0} (P : Y → Type 0) (f : X → Y) (xs : List X) → Each P (map f xs) → Each (λ x. P (f x)) xs
each_image P f [] h = tt
each_image P f (x ∷ xs) h = (h.0, each_image P f xs h.1)

images_apart : (g : Element → Element) (es : List Element) → AllDiffer (λ e. e.vector) (map g es) → Pairwise (λ e f. Differ (λ e. e.vector) (g e) (g f)) es
images_apart g [] d = tt
images_apart g (e ∷ es) d = (each_image _ g es d.0, images_apart g es d.1)

-- elements that are moved one by one make the moved list
listed_moved : (g : Element → Element) (ps qs : List Piece) → AreApart qs → flat_map elements qs ≡ map g (flat_map elements ps) → listed qs ≡ in_order (map g (listed ps))
listed_moved g ps qs b m =
    let old = flat_map elements ps in
    let new = flat_map elements qs in
    retimed (λ e. e.vector) old new g (elements_differ qs b) (images_apart g old (subst (AllDiffer (λ e. e.vector)) m (elements_differ qs b)))
    (λ e i. subst (In (g e)) (sym m) (map_in g old e i)) (λ f i. in_map g old f (subst (In f) m i))

pub places_in : (ps : List Piece) (q : Piece) → In q ps → In (places_of q) (map places_of ps)
places_in ps q i = map_in places_of ps q i

pub list_closed : (ps : List Piece) (cs : List (List ℕ)) → AreRanks (map places_of ps) ps cs → AreApart ps → listed (all_placed ps cs) ≡ closed_up (listed ps)
list_closed ps cs r a =
    listed_moved (ranked (map places_of ps)) ps (all_placed ps cs) (apart_placed (map places_of ps) ps cs (places_in ps) r a) (all_ranked (map places_of ps) ps cs r a)
    ∙ ap (λ all. in_order (map (ranked all) (listed ps))) (sym (numbered ps a))

-- What doesn't depend on places stays.

pub map_placed : {X : Type 0} (f : Piece → X) → ((p : Piece) (c : List ℕ) → f (placed p c) ≡ f p) → (ps : List Piece) (cs : List (List ℕ)) → map f (all_placed ps cs) ≡ map f ps
map_placed f h [] cs = refl
map_placed f h (p ∷ ps) [] = refl
map_placed f h (p ∷ ps) (c ∷ cs) = ap₂ (λ x xs. x ∷ xs) (h p c) (map_placed f h ps cs)

flat_placed : {X : Type 0} (f : Piece → List X) → ((p : Piece) (c : List ℕ) → f (placed p c) ≡ f p) → (ps : List Piece) (cs : List (List ℕ)) → flat_map f (all_placed ps cs) ≡ flat_map f ps
flat_placed f h [] cs = refl
flat_placed f h (p ∷ ps) [] = refl
flat_placed f h (p ∷ ps) (c ∷ cs) = ap₂ (λ x xs. x ++ xs) (h p c) (flat_placed f h ps cs)

all_by : (P : Piece → Type 0) → ((p : Piece) (c : List ℕ) → P p → P (placed p c)) → (ps : List Piece) (cs : List (List ℕ)) → All P ps → All P (all_placed ps cs)
all_by P h [] cs a = a
all_by P h (p ∷ ps) [] a = a
all_by P h (p ∷ ps) (c ∷ cs) a = All-cons P (placed p c) (all_placed ps cs) (h p c (All-head P p ps a)) (all_by P h ps cs (All-tail P p ps a))

-- each member has the identity of one of the old list
old_member : (ps : List Piece) (cs : List (List ℕ)) (q : Piece) → In q (all_placed ps cs) → (p : Piece) × (In p ps × ((c : List ℕ) × ((q ≡ placed p c) ⊎ (q ≡ p))))
old_member [] cs q i = absurd i
old_member (p ∷ ps) [] q i = (q, (i, ([], inr refl)))
old_member (p ∷ ps) (c ∷ cs) q (inl e) = (p, (inl refl, (c, inl (sym e))))
old_member (p ∷ ps) (c ∷ cs) q (inr i) = let r = old_member ps cs q i in (r.0, (inr r.1.0, r.1.1))

-- a fact that does not depend on places holds of all elements
elements_placed : (P : Element → Type 0) → ((p : Piece) (c : List ℕ) (xs : List ℤ) → P (element_at p xs) → P (element_at (placed p c) xs))
    → (ps : List Piece) (cs : List (List ℕ)) → All P (listed ps) → All P (listed (all_placed ps cs))
elements_placed P h ps cs n =
    all_in P (listed (all_placed ps cs))
    (λ e i.
    let s = in_listed (all_placed ps cs) e i in
    let o = old_member ps cs s.piece s.is_piece in
    let old : In s.instance (instances o.0) → P (element_at o.0 s.instance) =
    λ j. at_all P (listed ps) (element_at o.0 s.instance) n (listed_in ps o.0 (element_at o.0 s.instance) o.1.0 (map_in (element_at o.0) (instances o.0) s.instance j)) in
    subst P s.is
    (elim o.1.1.1 as (λ _. P (element_at s.piece s.instance)) [
      | inl f ↦ subst (λ z. P (element_at z s.instance)) (sym f) (h o.0 o.1.1.0 s.instance (old (subst (λ z. In s.instance (instances z)) f s.is_instance)))
      | inr f ↦ subst (λ z. P (element_at z s.instance)) (sym f) (old (subst (λ z. In s.instance (instances z)) f s.is_instance))
    ]))

length_placed : (ps : List Piece) (cs : List (List ℕ)) → length (all_placed ps cs) ≡ length ps
length_placed [] cs = refl
length_placed (p ∷ ps) [] = refl
length_placed (p ∷ ps) (c ∷ cs) = ap suc (length_placed ps cs)

pub space_closed : (arrays weight commands : ℕ) (ps : List Piece) (counts : List ℕ) (temps : List (List ℕ)) (cs : List (List ℕ)) → AreRanks (map places_of ps) ps cs
    → IsSpace arrays ps counts temps weight commands → IsSpace arrays (all_placed ps cs) counts temps weight commands
space_closed arrays weight commands ps counts temps cs r s = record {
  apart = apart_placed (map places_of ps) ps cs (places_in ps) r s.apart;
  well_formed = subst (λ z. IsTrue (is_well_formed z)) (sym (list_closed ps cs r s.apart)) (closed_fine (listed ps) s.well_formed);
  counted = s.counted ∙ sym (map_placed (λ p. length (instances p)) (λ p c. refl) ps cs);
  few = s.few;
  few_arrays = s.few_arrays;
  few_pieces = subst (λ n. n ≤ most_pieces) (sym (length_placed ps cs)) s.few_pieces;
  few_commands = s.few_commands;
  some_weight = s.some_weight;
  small_weight = s.small_weight;
  limited = all_by (IsLimited weight commands) (λ p c h. record { levels = h.levels; iterators = h.iterators; variables = h.variables; boxes = h.boxes; origin = h.origin }) ps cs s.limited;
  bodies = all_by (λ p. IsBody arrays (length temps) (length p.origin) p.body) (λ p c h. h) ps cs s.bodies;
  agree = λ x y i j e. s.agree x y (subst (In x) (flat_placed (λ p. accesses p.body) (λ p c. refl) ps cs) i) (subst (In y) (flat_placed (λ p. accesses p.body) (λ p c. refl) ps cs) j) e;
  moves = all_by (λ p. IsMoveBelow (256 * commands) p.label) (λ p c h. h) ps cs s.moves;
  near = elements_placed (λ e. All (IsAtMost (2 ^ 54)) e.identity.iters) (λ p c xs h. h) ps cs s.near;
  wrapped = elements_placed (λ e. All (λ a. All (IsWrapped e.identity.iters) a.subs) (accesses e.body)) (λ p c xs h. h) ps cs s.wrapped;
  reached = elements_placed (λ e. All (λ a. All (IsReached e.identity.iters) a.subs) (accesses e.body)) (λ p c xs h. h) ps cs s.reached;
}

-- Pieces placed from the last on.

none_placed : (ps : List Piece) → all_placed ps [] ≡ ps
none_placed [] = refl
none_placed (p ∷ ps) = refl

place_last : (ps : List Piece) (cs : List (List ℕ)) (c : List ℕ) (d : Piece) → length cs < length ps → all_placed ps (cs ++ c ∷ []) ≡ all_placed (set ps (length cs) (placed (get_or ps (length cs) d) c)) cs
place_last [] cs c d h = absurd (omega arith)
place_last (p ∷ ps) [] c d h = ap (λ t. placed p c ∷ t) (none_placed ps)
place_last (p ∷ ps) (b ∷ cs) c d h = ap (λ t. placed p b ∷ t) (place_last ps cs c d (omega arith))

pub all_placed_now : (ps first : List Piece) (cs all : List (List ℕ)) → cs ≡ [] → all_placed ps cs ≡ all_placed first all → ps ≡ all_placed first all
all_placed_now ps first cs all e h = sym (none_placed ps) ∙ ap (all_placed ps) (sym e) ∙ h

pub one_placed : (ps new first : List Piece) (old cs all : List (List ℕ)) (c : List ℕ) (n : ℕ) (d : Piece) → length old ≤ length ps → all_placed ps old ≡ all_placed first all → old ≡ cs ++ c ∷ [] → n ≡ length cs
    → new ≡ set ps n (placed (get_or ps n d) c) → all_placed new cs ≡ all_placed first all
one_placed ps new first old cs all c n d l h o e w =
    let m : length cs + 1 ≡ length old = simp length-append at (sym (ap length o)) in
    ap (λ z. all_placed z cs) (w ∙ ap (λ k. set ps k (placed (get_or ps k d) c)) e) ∙ sym (place_last ps cs c d (omega arith)) ∙ ap (all_placed ps) (sym o) ∙ h

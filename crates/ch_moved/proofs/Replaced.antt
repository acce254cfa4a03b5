-- Pieces each of which has the elements of one other piece, moved, at places that follow from the old ones.
use Rattle.std.proofs.Common.{◌≡◌, ◌≢◌, refl, sym, ap, ap₂, ◌∙◌, subst, ℕ, suc, ◌≤◌, ℤ, true, not, ◌&&◌, List, [], ◌∷◌, map, length, inl, inr}
use Rattle.std.specs.List.{flat_map}
use Rattle.std.specs.Ordering.{int_cmp}
use Rattle.std.specs.declared.cmp.Ordering.TheVariants.{Less}
use Rattle.std.specs.Cmp.Lexicographic.{slice_cmp}
use Rattle.std.proofs.lemmas.Bool.{and_from, and_parts, or_cases, or_left, or_right}
use Rattle.std.proofs.lemmas.List.{length-map}
use Rattle.ch_order.specs.Legal.{AreAmong}
use Rattle.ch_order.proofs.Kept.{one_identity}
use Rattle.ch_order.proofs.Steps.{same_identity_of}
use Rattle.ch_space.specs.declared.piece.Piece.{Piece}
use Rattle.ch_space.specs.Keeps.{AllLater, AreApart, IsLimited, IsSpace, IsWhole, most_commands, most_pieces, most_weight, places_of}
use Rattle.ch_space.specs.Pieces.{element_at, elements, instances, listed}
use Rattle.ch_space.proofs.Membership.{append_left, append_right, in_append}
use Rattle.ch_space.proofs.PieceElements.{OneEach, element_places, elements_ascend, one_each, whole_in}
use Rattle.ch_space.proofs.PieceNumbers.{all_in, images_differ, instance_in, listed_in, lists_same, same_lists, some_in}
use Rattle.ch_moved.proofs.Taken.{ComesFrom, PlacesApart, Taken, listed_taken, steps_among, steps_from, taken_space}
use Rattle.ch_timed.specs.declared.element.Element.{Element}
use Rattle.ch_timed.specs.Members.{In}
use Rattle.ch_timed.specs.Timed.{identities_differ, in_order, is_apart, is_well_formed, pieces_apart, step}
use Rattle.ch_timed.specs.Vectors.{begins_with, places, same_numbers}
use Rattle.ch_timed.proofs.Prefixes.{apart}
use Rattle.ch_timed.proofs.Orders.{ascending_differ, in_map, map_in, ordered_length, retimed}
use Rattle.ch_timed.proofs.Sorted.{ascends_ordered}

-- The piece has the elements of the other one, moved by g; `placed` gives its places from the old ones, and it keeps to the limits.
pub record IsReplaced (placed : List ℤ → List ℤ) (g : Element → Element) (weight commands : ℕ) (p q : Piece) : Type 0 where
  pub whole : IsWhole q
  pub places : places_of q ≡ placed (places_of p)
  pub label : q.label ≡ p.label
  pub body : q.body ≡ p.body
  pub iterators : length q.origin ≡ length p.origin
  pub limited : IsLimited weight commands q
  pub forth : (xs : List ℤ) → In xs (instances p) → (ys : List ℤ) × (In ys (instances q) × (g (element_at p xs) ≡ element_at q ys))
  pub back : (ys : List ℤ) → In ys (instances q) → (xs : List ℤ) × (In xs (instances p) × (g (element_at p xs) ≡ element_at q ys))

abbrev pub AllReplaced : (List ℤ → List ℤ) → (Element → Element) → ℕ → ℕ → List Piece → List Piece → Type 0
AllReplaced placed g weight commands [] [] = Unit {0}
AllReplaced placed g weight commands [] (q ∷ qs) = ⊥
AllReplaced placed g weight commands (p ∷ ps) [] = ⊥
AllReplaced placed g weight commands (p ∷ ps) (q ∷ qs) = IsReplaced placed g weight commands p q × AllReplaced placed g weight commands ps qs

module _ (placed : List ℤ → List ℤ) (g : Element → Element) (weight commands : ℕ) where
  -- the new places stand in the order of the old ones
  abbrev pub KeepsOrder : List Piece → Type 0
  KeepsOrder ps = (p q : Piece) → In p ps → In q ps → slice_cmp int_cmp (places_of p) (places_of q) ≡ Less → slice_cmp int_cmp (placed (places_of p)) (placed (places_of q)) ≡ Less

  later_kept : (p : Piece) (ps qs : List Piece) → AllReplaced placed g weight commands ps qs
      → ((q : Piece) → In q ps → slice_cmp int_cmp (places_of p) (places_of q) ≡ Less → slice_cmp int_cmp (placed (places_of p)) (placed (places_of q)) ≡ Less)
      → AllLater (places_of p) ps → AllLater (placed (places_of p)) qs
  later_kept p [] [] r o a = tt
  later_kept p [] (q ∷ qs) r o a = absurd r
  later_kept p (s ∷ ps) [] r o a = absurd r
  later_kept p (s ∷ ps) (q ∷ qs) r o a =
      (subst (λ z. slice_cmp int_cmp (placed (places_of p)) z ≡ Less) (sym r.0.places) (o s (inl refl) a.0), later_kept p ps qs r.1 (λ t i. o t (inr i)) a.1)

  some_kept : (p q : Piece) → IsReplaced placed g weight commands p q → instances p ≢ [] → instances q ≢ []
  some_kept p q r some none =
      let x = some_in (instances p) some in
      let y = r.forth x.0 x.1 in
      subst (λ ys. In y.0 ys) none y.1.0

  pub apart_kept : (ps qs : List Piece) → AllReplaced placed g weight commands ps qs → KeepsOrder ps → AreApart ps → AreApart qs
  apart_kept [] [] r o a = tt
  apart_kept [] (q ∷ qs) r o a = absurd r
  apart_kept (p ∷ ps) [] r o a = absurd r
  apart_kept (p ∷ ps) (q ∷ qs) r o a = (
    r.0.whole,
    some_kept p q r.0 a.1,
    subst (λ z. AllLater z qs) (sym r.0.places) (later_kept p ps qs r.1 (λ s i. o p s (inl refl) (inr i)) a.2),
    apart_kept ps qs r.1 (λ s t i j. o s t (inr i) (inr j)) a.3,
  )

  forth_all : (ps qs : List Piece) → AllReplaced placed g weight commands ps qs → (e : Element) → In e (flat_map elements ps) → In (g e) (flat_map elements qs)
  forth_all [] [] r e i = absurd i
  forth_all [] (q ∷ qs) r e i = absurd r
  forth_all (p ∷ ps) [] r e i = absurd r
  forth_all (p ∷ ps) (q ∷ qs) r e i = elim (in_append (elements p) (flat_map elements ps) e i) as (λ _. In (g e) (flat_map elements (q ∷ qs))) [
    | inl j ↦
        let x = in_map (element_at p) (instances p) e j in
        let y = r.0.forth x.0 x.1.0 in
        append_left (elements q) (flat_map elements qs) (g e) (subst (λ z. In z (elements q)) (sym y.1.1 ∙ ap g x.1.1) (map_in (element_at q) (instances q) y.0 y.1.0))
    | inr j ↦ append_right (elements q) (flat_map elements qs) (g e) (forth_all ps qs r.1 e j)
  ]

  back_all : (ps qs : List Piece) → AllReplaced placed g weight commands ps qs → (f : Element) → In f (flat_map elements qs) → (e : Element) × (In e (flat_map elements ps) × (g e ≡ f))
  back_all [] [] r f i = absurd i
  back_all [] (q ∷ qs) r f i = absurd r
  back_all (p ∷ ps) [] r f i = absurd r
  back_all (p ∷ ps) (q ∷ qs) r f i = elim (in_append (elements q) (flat_map elements qs) f i) as (λ _. (e : Element) × (In e (flat_map elements (p ∷ ps)) × (g e ≡ f))) [
    | inl j ↦
        let y = in_map (element_at q) (instances q) f j in
        let x = r.0.back y.0 y.1.0 in
        (element_at p x.0, (append_left (elements p) (flat_map elements ps) (element_at p x.0) (map_in (element_at p) (instances p) x.0 x.1.0), x.1.1 ∙ y.1.1))
    | inr j ↦ let s = back_all ps qs r.1 f j in (s.0, (append_right (elements p) (flat_map elements ps) s.0 s.1.0, s.1.1))
  ]

  pub all_taken : (ps qs : List Piece) → AllReplaced placed g weight commands ps qs → Taken g ps qs
  all_taken ps qs r = record { forth = forth_all ps qs r; back = back_all ps qs r }

  -- the piece that a piece was made from
  replaced_from : (ps qs : List Piece) → AllReplaced placed g weight commands ps qs → (q : Piece) → In q qs → (p : Piece) × (In p ps × IsReplaced placed g weight commands p q)
  replaced_from [] [] r q i = absurd i
  replaced_from [] (s ∷ qs) r q i = absurd r
  replaced_from (p ∷ ps) [] r q i = absurd r
  replaced_from (p ∷ ps) (s ∷ qs) r q (inl e) = (p, (inl refl, subst (λ z. IsReplaced placed g weight commands p z) e r.0))
  replaced_from (p ∷ ps) (s ∷ qs) r q (inr i) = let t = replaced_from ps qs r.1 q i in (t.0, (inr t.1.0, t.1.1))

  length_replaced : (ps qs : List Piece) → AllReplaced placed g weight commands ps qs → length qs ≡ length ps
  length_replaced [] [] r = refl
  length_replaced [] (q ∷ qs) r = absurd r
  length_replaced (p ∷ ps) [] r = absurd r
  length_replaced (p ∷ ps) (q ∷ qs) r = ap suc (length_replaced ps qs r.1)

-- How many instances there are.

module _ (placed : List ℤ → List ℤ) (g : Element → Element) (keeps : (e : Element) → step (g e) ≡ step e) (weight commands : ℕ) where
  single : (q : Piece) → IsWhole q → instances q ≢ [] → OneEach (elements q)
  single q w some e f i j v =
      one_each (q ∷ []) (w, some, tt, tt) e f (append_left (elements q) [] e i) (append_left (elements q) [] f j) v

  count_kept : (ps : List Piece) (p q : Piece) → AreApart ps → identities_differ (listed ps) ≡ true → In p ps → IsWhole p → IsReplaced placed g weight commands p q → length (instances q) ≡ length (instances p)
  count_kept ps p q a d i w r =
      let some = instance_in ps p a i in
      let up = elements_ascend p w in
      let up_too = elements_ascend q r.whole in
      let t = all_taken placed g weight commands (p ∷ []) (q ∷ []) (r, tt) in
      let forth : (e : Element) → In e (elements p) → In (g e) (elements q) = λ e j. from_one q (g e) (t.forth e (append_left (elements p) [] e j)) in
      let back : (f : Element) → In f (elements q) → (e : Element) × (In e (elements p) × (g e ≡ f)) = λ f j.
      let s = t.back f (append_left (elements q) [] f j) in (s.0, (from_one p s.0 s.1.0, s.1.1)) in
      let images = images_differ (λ e. e.vector) g (elements p) (ascending_differ (λ e. e.vector) (elements p) up) (λ e f j k v.
      let one = single q r.whole (some_kept placed g weight commands p q r some) (g e) (g f) (forth e j) (forth f k) v in
      one_identity (listed ps) e f d (listed_in ps p e i j) (listed_in ps p f i k) (same_identity_of e f (sym (keeps e) ∙ ap step one ∙ keeps f))) in
      let same : elements q ≡ in_order (map g (elements p)) =
      sym (ascends_ordered (elements q) up_too) ∙ retimed (λ e. e.vector) (elements p) (elements q) g (ascending_differ (λ e. e.vector) (elements q) up_too) images forth back
      ∙ ap (λ z. in_order (map g z)) (ascends_ordered (elements p) up) in
      sym (length-map (instances q) (element_at q)) ∙ ap length same ∙ ordered_length (λ e. e.vector) (map g (elements p)) ∙ length-map (elements p) g ∙ length-map (instances p) (element_at p)
    where
      from_one : (s : Piece) (e : Element) → In e (flat_map elements (s ∷ [])) → In e (elements s)
      from_one s e i = elim (in_append (elements s) [] e i) as (λ _. In e (elements s)) [ inl j ↦ j | inr j ↦ absurd j ]

  pub counts_kept : (all ps qs : List Piece) → AreApart all → identities_differ (listed all) ≡ true → ((p : Piece) → In p ps → In p all) → AreApart ps → AllReplaced placed g weight commands ps qs
      → map (λ p. length (instances p)) qs ≡ map (λ p. length (instances p)) ps
  counts_kept all [] [] a d i w r = refl
  counts_kept all [] (q ∷ qs) a d i w r = absurd r
  counts_kept all (p ∷ ps) [] a d i w r = absurd r
  counts_kept all (p ∷ ps) (q ∷ qs) a d i w r =
      ap₂ (λ n ns. n ∷ ns) (count_kept all p q a d (i p (inl refl)) w.0 r.0) (counts_kept all ps qs a d (λ s j. i s (inr j)) w.3 r.1)

-- The places of the pieces of a well formed list are apart.

pub same_apart : (ps : List ℤ) → apart ps ps ≡ true
same_apart ps = or_left _ _ (lists_same ps ps refl)

pub turned : (ps qs : List ℤ) → apart ps qs ≡ true → apart qs ps ≡ true
turned ps qs h = elim (or_cases (same_numbers ps qs) (not (begins_with ps qs) && not (begins_with qs ps)) h) as (λ _. apart qs ps ≡ true) [
  | inl s ↦ or_left (same_numbers qs ps) _ (lists_same qs ps (sym (same_lists ps qs s)))
  | inr t ↦
      let p = and_parts (not (begins_with ps qs)) (not (begins_with qs ps)) t in
      or_right (same_numbers qs ps) (not (begins_with qs ps) && not (begins_with ps qs)) (and_from _ _ p.1 p.0)
]

apart_from : (ps : List ℤ) (xs : List Element) (f : Element) → is_apart ps xs ≡ true → In f xs → apart ps (places f.vector) ≡ true
apart_from ps [] f h i = absurd i
apart_from ps (x ∷ xs) f h (inl e) = subst (λ z. apart ps (places z.vector) ≡ true) e (and_parts _ _ h).0
apart_from ps (x ∷ xs) f h (inr i) = apart_from ps xs f (and_parts _ _ h).1 i

pub members_apart : (xs : List Element) (e f : Element) → pieces_apart xs ≡ true → In e xs → In f xs → apart (places e.vector) (places f.vector) ≡ true
members_apart [] e f h i j = absurd i
members_apart (x ∷ xs) e f h (inl k) (inl l) =
    subst (λ z. apart (places z.vector) (places f.vector) ≡ true) k (subst (λ z. apart (places x.vector) (places z.vector) ≡ true) l (same_apart (places x.vector)))
members_apart (x ∷ xs) e f h (inl k) (inr j) = subst (λ z. apart (places z.vector) (places f.vector) ≡ true) k (apart_from (places x.vector) xs f (and_parts _ _ h).0 j)
members_apart (x ∷ xs) e f h (inr i) (inl l) =
    subst (λ z. apart (places e.vector) (places z.vector) ≡ true) l (turned (places x.vector) (places e.vector) (apart_from (places x.vector) xs e (and_parts _ _ h).0 i))
members_apart (x ∷ xs) e f h (inr i) (inr j) = members_apart xs e f (and_parts _ _ h).1 i j

pub places_apart : (ps : List Piece) → AreApart ps → is_well_formed (listed ps) ≡ true → PlacesApart ps
places_apart ps a h p q i j =
    let far = (and_parts _ _ (and_parts _ _ (and_parts _ _ h).1).1).0 in
    let x = some_in (instances p) (instance_in ps p a i) in
    let y = some_in (instances q) (instance_in ps q a j) in
    let e = listed_in ps p (element_at p x.0) i (map_in (element_at p) (instances p) x.0 x.1) in
    let f = listed_in ps q (element_at q y.0) j (map_in (element_at q) (instances q) y.0 y.1) in
    subst (λ z. apart z (places_of q) ≡ true) (element_places p x.0 (whole_in ps p a i) x.1)
    (subst (λ z. apart (places (element_at p x.0).vector) z ≡ true) (element_places q y.0 (whole_in ps q a j) y.1)
    (members_apart (listed ps) (element_at p x.0) (element_at q y.0) far e f))

module _ (placed : List ℤ → List ℤ) (g : Element → Element) (keeps : (e : Element) → step (g e) ≡ step e) (weight commands : ℕ) where
  -- the new places stand apart
  abbrev pub KeepsApart : List Piece → Type 0
  KeepsApart ps = (p q : Piece) → In p ps → In q ps → apart (placed (places_of p)) (placed (places_of q)) ≡ true

  far_kept : (ps qs : List Piece) → KeepsApart ps → AllReplaced placed g weight commands ps qs → PlacesApart qs
  far_kept ps qs far r q s i j =
      let p = replaced_from placed g weight commands ps qs r q i in
      let t = replaced_from placed g weight commands ps qs r s j in
      subst (λ z. apart z (places_of s) ≡ true) (sym p.1.1.places)
      (subst (λ z. apart (placed (places_of p.0)) z ≡ true) (sym t.1.1.places) (far p.0 t.0 p.1.0 t.1.0))

  from_old : (ps qs : List Piece) → AllReplaced placed g weight commands ps qs → (q : Piece) → In q qs → ComesFrom ps q
  from_old ps qs r q i =
      let p = replaced_from placed g weight commands ps qs r q i in
      record { piece = p.0; is_piece = p.1.0; label = p.1.1.label; body = p.1.1.body; iterators = p.1.1.iterators }

  module _ (arrays : ℕ) (ps qs : List Piece) (counts : List ℕ) (temps : List (List ℕ)) (old_weight old_commands : ℕ) (space : IsSpace arrays ps counts temps old_weight old_commands)
      (r : AllReplaced placed g weight commands ps qs) (order : KeepsOrder placed g weight commands ps) where
    -- pieces that are replaced one by one make the moved list
    pub replaced_list : listed qs ≡ in_order (map g (listed ps))
    replaced_list =
        listed_taken g ps qs keeps (and_parts _ _ space.well_formed).0 space.apart (apart_kept placed g weight commands ps qs r order space.apart) (all_taken placed g weight commands ps qs r)

    -- and a space again
    pub replaced_space : KeepsApart ps → old_commands ≤ commands → commands ≤ most_commands → 1 ≤ weight → weight ≤ most_weight → IsSpace arrays qs counts temps weight commands
    replaced_space far more few some small =
        let differ = (and_parts _ _ space.well_formed).0 in
        taken_space arrays ps counts temps old_weight old_commands space g keeps qs (apart_kept placed g weight commands ps qs r order space.apart) (all_taken placed g weight commands ps qs r)
        counts weight commands (far_kept ps qs far r) (from_old ps qs r)
        (space.counted ∙ sym (counts_kept placed g keeps weight commands ps ps qs space.apart differ (λ p i. i) space.apart r))
        (subst (λ n. n ≤ most_pieces) (sym (length_replaced placed g weight commands ps qs r)) space.few_pieces) more few some small
        (all_in (IsLimited weight commands) qs (λ q i. (replaced_from placed g weight commands ps qs r q i).1.1.limited))

    -- and execute the same steps
    pub replaced_among : AreAmong (listed ps) (listed qs)
    replaced_among =
        steps_among arrays ps counts temps old_weight old_commands space g keeps qs (apart_kept placed g weight commands ps qs r order space.apart) (all_taken placed g weight commands ps qs r)

    pub among_replaced : AreAmong (listed qs) (listed ps)
    among_replaced =
        steps_from arrays ps counts temps old_weight old_commands space g keeps qs (apart_kept placed g weight commands ps qs r order space.apart) (all_taken placed g weight commands ps qs r)

-- The element of several pieces that comes next after a vector.
use Rattle.std.proofs.Common.{◌≡◌, refl, sym, ap, ap₂, ◌∙◌, subst, ℕ, ◌+◌, ◌<◌, ◌≤◌, ℤ, pos, Bool, true, false, Option, Some, None, List, [], ◌∷◌, ◌++◌, length, map, take, get_or, inl, inr, arith, append-nil, append_assoc, length-take-le}
use Rattle.std.specs.Bool.{IsTrue}
use Rattle.std.specs.List.{flat_map}
use Rattle.std.specs.Ordering.{int_cmp, is_lt, ordering_reverse}
use Rattle.std.specs.declared.cmp.Ordering.{Ordering}
use Rattle.std.specs.declared.cmp.Ordering.TheVariants.{Less, Equal, Greater}
use Rattle.std.specs.Cmp.{int_cmp_total, IsTotalOrder}
use Rattle.std.specs.Cmp.Lexicographic.{slice_cmp, lists_total}
use Rattle.std.specs.FinMap.{slice_cmp-IsAntisymmetric, int_cmp-IsAntisymmetric}
use Rattle.std.proofs.lemmas.List.{length-map, map_more, take_all, take_more}
use Rattle.ch_timed.specs.Members.{In}
use Rattle.ch_timed.specs.Next.{first_if, next_after}
use Rattle.ch_timed.specs.Vectors.{comes_before, woven}
use Rattle.ch_timed.specs.declared.element.Element.{Element}
use Rattle.ch_timed.proofs.Orders.{IsAscending, at_each, from_order, in_map, map_in, not_both, not_itself, to_order}
use Rattle.ch_space.specs.declared.piece.Piece.{Piece}
use Rattle.ch_space.specs.Following.{BeginsWith, ComesAfter, IsLeast, IsNext, UpTo, earlier, second_if}
use Rattle.ch_space.specs.Keeps.{AreApart, IsWhole, places_of}
use Rattle.ch_space.specs.Pieces.{element_at, elements, instances, listed}
use Rattle.ch_space.proofs.Followings.{is_less}
use Rattle.ch_space.proofs.Membership.{append_left, append_right, in_append}
use Rattle.ch_space.proofs.PieceElements.{levels_of, long, woven_same}
use Rattle.ch_space.proofs.PieceNumbers.{listed_ascends}

order : IsTotalOrder (slice_cmp int_cmp)
order = lists_total int_cmp_total

abbrev itself : List ℤ → List ℤ
itself v = v

-- of two vectors

not_less : (a b : List ℤ) (o : Ordering) → slice_cmp int_cmp b a ≡ o → is_lt o ≡ false → UpTo a b
not_less a b Less c h = cc
not_less a b Equal c h = inl (sym (slice_cmp-IsAntisymmetric int_cmp-IsAntisymmetric b a c))
not_less a b Greater c h = inr (order.antisymm a b ∙ ap ordering_reverse c)

up_to_both : (a b c : List ℤ) → UpTo a b → UpTo b c → UpTo a c
up_to_both a b c (inl e) h = subst (λ z. UpTo z c) (sym e) h
up_to_both a b c (inr l) (inl e) = inr (subst (λ z. slice_cmp int_cmp a z ≡ Less) e l)
up_to_both a b c (inr l) (inr m) = inr (order.trans a b c l m)

-- the earlier element of two lists

module _ (vector : List ℤ) where
  abbrev IsLater : Element → Type 0
  IsLater e = IsTrue (comes_before vector e.vector)

  both_by : (c : Bool) (es fs : List Element) (a b : Element) → comes_before b.vector a.vector ≡ c → IsNext vector es (Some a) → IsNext vector fs (Some b)
      → IsNext vector (es ++ fs) (Some (second_if c a b))
  both_by true es fs a b e m n = (
    append_right es fs b n.0,
    n.1,
    λ x i l. elim (in_append es fs x i) as (λ _. UpTo b.vector x.vector) [
      | inl j ↦ up_to_both b.vector a.vector x.vector (inr (is_less (slice_cmp int_cmp b.vector a.vector) e)) (m.2 x j l)
      | inr j ↦ n.2 x j l
    ],
  )
  both_by false es fs a b e m n = (
    append_left es fs a m.0,
    m.1,
    λ x i l. elim (in_append es fs x i) as (λ _. UpTo a.vector x.vector) [
      | inl j ↦ m.2 x j l
      | inr j ↦ up_to_both a.vector b.vector x.vector (not_less a.vector b.vector (slice_cmp int_cmp b.vector a.vector) refl e) (n.2 x j l)
    ],
  )

  earlier_is : (es fs : List Element) (r s : Option Element) → IsNext vector es r → IsNext vector fs s → IsNext vector (es ++ fs) (earlier r s)
  earlier_is es fs None None m n = λ x i l. elim (in_append es fs x i) as (λ _. ⊥) [ inl j ↦ m x j l | inr j ↦ n x j l ]
  earlier_is es fs None (Some b) m n = (
    append_right es fs b n.0,
    n.1,
    λ x i l. elim (in_append es fs x i) as (λ _. UpTo b.vector x.vector) [ inl j ↦ absurd (m x j l) | inr j ↦ n.2 x j l ],
  )
  earlier_is es fs (Some a) None m n = (
    append_left es fs a m.0,
    m.1,
    λ x i l. elim (in_append es fs x i) as (λ _. UpTo a.vector x.vector) [ inl j ↦ m.2 x j l | inr j ↦ absurd (n x j l) ],
  )
  earlier_is es fs (Some a) (Some b) m n = both_by (comes_before b.vector a.vector) es fs a b refl m n

  flat_push : (ps : List Piece) (p : Piece) → flat_map elements (ps ++ p ∷ []) ≡ flat_map elements ps ++ elements p
  flat_push [] p = append-nil (elements p)
  flat_push (q ∷ ps) p = ap (λ t. elements q ++ t) (flat_push ps p) ∙ sym (append_assoc (elements q) (flat_map elements ps) (elements p))

  pub next_more : (ps : List Piece) (p : Piece) (k : ℕ) (r s now : Option Element) → k < length ps → p ≡ get_or ps k p → now ≡ earlier r s
      → IsNext vector (flat_map elements (take k ps)) r → IsNext vector (elements p) s → IsNext vector (flat_map elements (take (k + 1) ps)) now
  next_more ps p k r s now l is e m n =
      let same : flat_map elements (take (k + 1) ps) ≡ flat_map elements (take k ps) ++ elements p =
      ap (flat_map elements) (take_more ps k p l ∙ ap (λ z. take k ps ++ z ∷ []) (sym is)) ∙ flat_push (take k ps) p in
      subst (λ z. IsNext vector z now) (sym same) (subst (IsNext vector (flat_map elements (take k ps) ++ elements p)) (sym e) (earlier_is (flat_map elements (take k ps)) (elements p) r s m n))

  -- the first of an ascending list

  some_by : (c : Bool) (x m : Element) (xs : List Element) → comes_before vector x.vector ≡ c → IsAscending (λ e. e.vector) (x ∷ xs) → IsNext vector (x ∷ xs) (Some m)
      → (IsNext vector xs (Some m) → next_after vector xs ≡ Some m) → first_if c x (next_after vector xs) ≡ Some m
  some_by true x m xs e a (inl k, b, h) f = ap (λ z. Some z) k
  some_by true x m xs e a (inr i, b, h) f =
      let c = at_each (λ y. slice_cmp int_cmp x.vector y.vector ≡ Less) xs a.0 m i in
      elim (h x (inl refl) e) as (λ _. Some x ≡ Some m) [
        | inl s ↦ absurd (not_itself itself x.vector (subst (λ z. slice_cmp int_cmp x.vector z ≡ Less) s c))
        | inr l ↦ absurd (not_both itself x.vector m.vector c l)
      ]
  some_by false x m xs e a (inl k, b, h) f = (let t : comes_before vector x.vector ≡ true = subst (λ z. comes_before vector z.vector ≡ true) (sym k) b in cc)
  some_by false x m xs e a (inr i, b, h) f = f (i, b, λ y j l. h y (inr j) l)

  none_by : (c : Bool) (x : Element) (more : Option Element) → comes_before vector x.vector ≡ c → (comes_before vector x.vector ≡ true → ⊥) → more ≡ None → first_if c x more ≡ None
  none_by true x more e n m = absurd (n e)
  none_by false x more e n m = m

  next_first : (xs : List Element) (r : Option Element) → IsAscending (λ e. e.vector) xs → IsNext vector xs r → next_after vector xs ≡ r
  next_first [] None a h = refl
  next_first [] (Some m) a h = absurd h.0
  next_first (x ∷ xs) None a h =
      none_by (comes_before vector x.vector) x (next_after vector xs) refl (h x (inl refl)) (next_first xs None a.1 (λ y i l. h y (inr i) l))
  next_first (x ∷ xs) (Some m) a h = some_by (comes_before vector x.vector) x m xs refl a h (λ n. next_first xs (Some m) a.1 n)

  next_members : (es fs : List Element) (r : Option Element) → ((e : Element) → In e es → In e fs) → ((e : Element) → In e fs → In e es) → IsNext vector es r → IsNext vector fs r
  next_members es fs None f g h = λ e i l. h e (g e i) l
  next_members es fs (Some m) f g h = (f m h.0, h.1, λ e i l. h.2 e (g e i) l)

  pub next_listed : (ps : List Piece) (r : Option Element) → AreApart ps → IsNext vector (flat_map elements ps) r → r ≡ next_after vector (listed ps)
  next_listed ps r a h =
      sym (next_first (listed ps) r (listed_ascends ps a)
      (next_members (flat_map elements ps) (listed ps) r
      (λ e i. to_order (λ e. e.vector) (flat_map elements ps) e i) (λ e i. from_order (λ e. e.vector) (flat_map elements ps) e i) h))

  -- the next element of a piece

  pub none_element : (p : Piece) → IsLeast (ComesAfter (places_of p) vector) (instances p) None → IsNext vector (elements p) None
  none_element p h = λ e i l.
      let x = in_map (element_at p) (instances p) e i in
      h x.0 x.1.0 (subst (λ z. IsTrue (comes_before vector z.vector)) (sym x.1.1) l)

  vectors_up_to : (p : Piece) (m xs : List ℤ) → IsWhole p → In m (instances p) → In xs (instances p) → UpTo m xs → UpTo (element_at p m).vector (element_at p xs).vector
  vectors_up_to p m xs w i j (inl e) = inl (ap (woven (places_of p)) e)
  vectors_up_to p m xs w i j (inr c) = inr (woven_same (places_of p) m xs (long p m w i) (levels_of p m w i ∙ sym (levels_of p xs w j)) ∙ c)

  pub some_element : (p : Piece) (m : List ℤ) → IsWhole p → IsLeast (ComesAfter (places_of p) vector) (instances p) (Some m) → IsNext vector (elements p) (Some (element_at p m))
  some_element p m w h = (
    map_in (element_at p) (instances p) m h.0,
    h.1,
    λ e i l.
        let x = in_map (element_at p) (instances p) e i in
        subst (λ z. UpTo (element_at p m).vector z.vector) x.1.1
        (vectors_up_to p m x.0 w h.0 x.1.0 (h.2 x.0 x.1.0 (subst (λ z. IsTrue (comes_before vector z.vector)) (sym x.1.1) l))),
  )

-- vectors woven from the front on

woven_push : (ps xs : List ℤ) (x p : ℤ) → length ps ≡ length xs + 1 → woven (ps ++ p ∷ []) (xs ++ x ∷ []) ≡ (woven ps xs ++ x ∷ []) ++ p ∷ []
woven_push [] xs x p l = absurd (omega arith)
woven_push (q ∷ []) [] x p l = refl
woven_push (q ∷ r ∷ ps) [] x p l = absurd (omega arith)
woven_push (q ∷ ps) (y ∷ xs) x p l = ap (λ t. q ∷ y ∷ t) (woven_push ps xs x p (omega arith))

pub woven_more : (places : List ℕ) (values vector a b : List ℤ) (k d : ℕ) (e : ℤ) → length places ≡ length values + 1 → k < length values
    → vector ≡ woven (map pos (take (k + 1) places)) (take k values) → a ≡ vector ++ get_or values k e ∷ [] → b ≡ a ++ pos (get_or places (k + 1) d) ∷ []
    → b ≡ woven (map pos (take ((k + 1) + 1) places)) (take (k + 1) values)
woven_more places values vector a b k d e l h now one two =
    let ps : List ℤ = map pos (take (k + 1) places) in
    let xs : List ℤ = take k values in
    let m : length ps ≡ k + 1 = length-map (take (k + 1) places) pos ∙ length-take-le (k + 1) places (omega arith) in
    let n : length xs ≡ k = length-take-le k values (omega arith) in
    let pushed = woven_push ps xs (get_or values k e) (pos (get_or places (k + 1) d)) (omega arith) in
    two ∙ ap (λ z. z ++ pos (get_or places (k + 1) d) ∷ []) (one ∙ ap (λ z. z ++ get_or values k e ∷ []) now) ∙ sym pushed
    ∙ ap₂ woven (sym (map_more pos places (k + 1) d (omega arith))) (sym (take_more values k e h))

-- a vector begins with the first place
pub woven_first : (places : List ℕ) (values vector : List ℤ) (d : ℕ) → 1 ≤ length places → vector ≡ pos (get_or places 0 d) ∷ [] → vector ≡ woven (map pos (take (0 + 1) places)) (take 0 values)
woven_first [] values vector d l e = absurd (omega arith)
woven_first (p ∷ places) values vector d l e = e

pub woven_all : (places : List ℕ) (values vector : List ℤ) (k : ℕ) → length places ≡ length values + 1 → length values ≤ k → vector ≡ woven (map pos (take (k + 1) places)) (take k values)
    → vector ≡ woven (map pos places) values
woven_all places values vector k l h e = e ∙ ap₂ (λ ps xs. woven (map pos ps) xs) (take_all (k + 1) places (omega arith)) (take_all k values h)

-- What the functions want.

pub places_long : (p : Piece) (xs : List ℤ) → IsWhole p → In xs (instances p) → length p.places ≡ length xs + 1
places_long p xs w i = w.places ∙ ap (λ n. n + 1) (sym (levels_of p xs w i))

abbrev pub Least : Piece → List ℤ → List ℕ → Option (List ℤ) → Type 0
Least p vector places r = IsLeast (BeginsWith [] (ComesAfter (map pos places) vector)) (instances p) r

pub element_none : (p : Piece) (vector : List ℤ) (places : List ℕ) (least : Option (List ℤ)) → places ≡ p.places → least ≡ None → Least p vector places least → IsNext vector (elements p) None
element_none p vector places least e n h =
    none_element vector p (subst (λ ps. Least p vector ps None) e (subst (Least p vector places) n h))

pub element_some : (p : Piece) (vector : List ℤ) (places : List ℕ) (least : Option (List ℤ)) (m made : List ℤ) (element : Element) → IsWhole p → places ≡ p.places → least ≡ Some m → made ≡ m
    → element ≡ element_at p made → Least p vector places least → IsNext vector (elements p) (Some element)
element_some p vector places least m made element w e n k is h =
    subst (λ z. IsNext vector (elements p) (Some z)) (sym (is ∙ ap (element_at p) k))
    (some_element vector p m w (subst (λ ps. Least p vector ps (Some m)) e (subst (Least p vector places) n h)))

-- The least value with which some point goes on behind a front, from the least point of a narrower system.
use Rattle.std.proofs.Common.{◌≡◌, refl, sym, ap, ap₂, ◌∙◌, subst, ℕ, zero, suc, ◌<◌, ◌^◌, ℤ, pos, ◌≤ℤ◌, ◌<ℤ◌, true, Option, Some, None, List, [], ◌∷◌, ◌++◌, length, slice_index_or, inl, inr, arith}
use Rattle.std.specs.List.{All}
use Rattle.std.specs.Ordering.{int_eq}
use Rattle.std.proofs.lemmas.Bool.{and_from, and_parts, false≢true}
use Rattle.std.proofs.lemmas.Int.{ints}
use Rattle.std.proofs.lemmas.List.Elements.{All-cons, All-head, All-tail}
use Rattle.ch_affine.specs.Affine.{IsAtMost}
use Rattle.ch_affine.specs.Form.{Form}
use Rattle.ch_affine.specs.Rows.{IsBox, IsSystem, Rows, all_hold, system}
use Rattle.ch_affine.specs.declared.system.Range.{Range}
use Rattle.ch_pieces.specs.Counting.{IsLow, IsNextValue, IsRest, cut}
use Rattle.ch_poly.specs.Points.{begins, begins_some, box_points, first, points}
use Rattle.ch_poly.proofs.Firsts.{InBox}
use Rattle.ch_space.specs.Following.{UpTo, single, with_boxes}
use Rattle.ch_space.proofs.EndsOf.{first_before, first_in, none_first, points_ascend}
use Rattle.ch_space.proofs.Membership.{any_from, any_in, box_points_in, filter_in, in_box_points, in_filter, length_inside}
use Rattle.ch_space.proofs.PieceElements.{Comes, cons_comes, less_comes, never}
use Rattle.ch_timed.specs.Members.{In}
use Rattle.ch_timed.proofs.Orders.{not_both}

abbrev pub at : List ℤ → ℕ → ℤ
at xs k = slice_index_or xs k (pos 0)

same_ints : (x y : ℤ) → int_eq x y ≡ true → x ≡ y
same_ints x y t = grind (arith, ints)

ints_same : (x : ℤ) → int_eq x x ≡ true
ints_same x = grind (arith, ints)

-- points and fronts

in_points : (s : Rows) (q : List ℤ) → In q (points s) → InBox s.boxes q × (all_hold s.rows q ≡ true)
in_points s q i = let f = in_filter (all_hold s.rows) (box_points s.boxes) q i in (in_box_points s.boxes q f.0, f.1)

points_in : (s : Rows) (q : List ℤ) → InBox s.boxes q → all_hold s.rows q ≡ true → In q (points s)
points_in s q b h = filter_in (all_hold s.rows) (box_points s.boxes) q (box_points_in s.boxes q b) h

begins_front : (front more q : List ℤ) → begins (front ++ more) q ≡ true → begins front q ≡ true
begins_front [] more q b = refl
begins_front (x ∷ front) more [] b = b
begins_front (x ∷ front) more (y ∷ q) b = let r = and_parts (int_eq x y) (begins (front ++ more) q) b in and_from (int_eq x y) (begins front q) r.0 (begins_front front more q r.1)

-- where some point goes on, some point begins with the front
pub shorter_front : (s : Rows) (front more : List ℤ) → begins_some s (front ++ more) ≡ true → begins_some s front ≡ true
shorter_front s front more b =
    let q = any_from (begins (front ++ more)) (points s) b in
    any_in (begins front) (points s) q.0 q.1.0 (begins_front front more q.0 q.1.1)

-- the ranges

pub rest_inside : (boxes : List Range) (k : ℕ) (r : Range) → IsRest boxes k r → k < length boxes
rest_inside [] k r h = absurd h
rest_inside (b ∷ boxes) zero r h = omega arith
rest_inside (b ∷ boxes) (suc k) r h = let l = rest_inside boxes k r h in omega arith

rest_box : (b r : Range) → IsBox b → b.low ≤ℤ r.low → r.low ≤ℤ r.high → r.high ≡ b.high → IsBox r
rest_box b r h l s e = let low = h.low in let high = h.high in record { low = omega (arith, ints); high = subst (IsAtMost (2 ^ 54)) (sym e) high; some = s }

single_box : (b : Range) (x y : ℤ) → IsBox b → x ≡ y → b.low ≤ℤ y → y ≤ℤ b.high → IsBox (single x)
single_box b x y h e l t = let low = h.low in let high = h.high in record { low = omega (arith, ints); high = omega (arith, ints); some = omega (arith, ints) }

pub cut_boxes : (boxes : List Range) (front q : List ℤ) (r : Range) → All IsBox boxes → InBox boxes q → begins front q ≡ true → IsRest boxes (length front) r → All IsBox (cut front r boxes)
cut_boxes [] front q r a i b h = absurd h
cut_boxes (c ∷ boxes) [] q r a i b h = All-cons IsBox r boxes (rest_box c r (All-head IsBox c boxes a) h.0 h.1 h.2) (All-tail IsBox c boxes a)
cut_boxes (c ∷ boxes) (x ∷ front) [] r a i b h = absurd i
cut_boxes (c ∷ boxes) (x ∷ front) (y ∷ q) r a i b h =
    let e = and_parts (int_eq x y) (begins front q) b in
    All-cons IsBox (single x) (cut front r boxes) (single_box c x y (All-head IsBox c boxes a) (same_ints x y e.0) i.0 i.1)
    (cut_boxes boxes front q r (All-tail IsBox c boxes a) i.2 e.1 h)

pub cut_length : (boxes : List Range) (front : List ℤ) (r : Range) → length front < length boxes → length (cut front r boxes) ≡ length boxes
cut_length [] front r h = absurd (omega arith)
cut_length (b ∷ boxes) [] r h = refl
cut_length (b ∷ boxes) (x ∷ front) r h = ap suc (cut_length boxes front r (omega arith))

-- what lies in the narrower ranges
record Goes (boxes : List Range) (front q : List ℤ) (r : Range) : Type 0 where
  inside : InBox boxes q
  begun : begins (front ++ at q (length front) ∷ []) q ≡ true
  low : r.low ≤ℤ at q (length front)

between : (x y : ℤ) → x ≤ℤ y → y ≤ℤ x → int_eq x y ≡ true
between x y l h = let e : x ≡ y = omega (arith, ints) in subst (λ z. int_eq x z ≡ true) e (ints_same x)

at_front : (low high x y z : ℤ) → x ≡ z → low ≤ℤ z → z ≤ℤ high → x ≤ℤ y → y ≤ℤ x → (low ≤ℤ y) × (y ≤ℤ high)
at_front low high x y z e a b c d = (omega (arith, ints), omega (arith, ints))

cut_out : (boxes : List Range) (front p q : List ℤ) (r : Range) → InBox boxes p → begins front p ≡ true → IsRest boxes (length front) r → InBox (cut front r boxes) q → Goes boxes front q r
cut_out [] front p q r i b h j = absurd h
cut_out (c ∷ boxes) [] p [] r i b h j = absurd j
cut_out (c ∷ boxes) [] p (y ∷ q) r i b h j =
    let l = h.0 in let e = h.2 in let low = j.0 in let high = j.1 in
    record { inside = (omega (arith, ints), subst (λ z. y ≤ℤ z) e high, j.2); begun = and_from (int_eq y y) true (ints_same y) refl; low = low }
cut_out (c ∷ boxes) (x ∷ front) [] q r i b h j = absurd i
cut_out (c ∷ boxes) (x ∷ front) (z ∷ p) [] r i b h j = absurd j
cut_out (c ∷ boxes) (x ∷ front) (z ∷ p) (y ∷ q) r i b h j =
    let e = and_parts (int_eq x z) (begins front p) b in
    let g = cut_out boxes front p q r i.2 e.1 h j.2 in
    let w = at_front c.low c.high x y z (same_ints x z e.0) i.0 i.1 j.0 j.1 in
    record { inside = (w.0, w.1, g.inside); begun = and_from (int_eq x y) (begins (front ++ at q (length front) ∷ []) q) (between x y j.0 j.1) g.begun; low = g.low }

cut_in : (boxes : List Range) (front q : List ℤ) (r : Range) (x : ℤ) → IsRest boxes (length front) r → InBox boxes q → begins (front ++ x ∷ []) q ≡ true → r.low ≤ℤ x → InBox (cut front r boxes) q
cut_in [] front q r x h i b l = absurd h
cut_in (c ∷ boxes) [] [] r x h i b l = absurd i
cut_in (c ∷ boxes) [] (y ∷ q) r x h i b l =
    let e = same_ints x y (and_parts (int_eq x y) true b).0 in
    (subst (λ z. r.low ≤ℤ z) e l, subst (λ z. y ≤ℤ z) (sym h.2) i.1, i.2)
cut_in (c ∷ boxes) (z ∷ front) [] r x h i b l = absurd i
cut_in (c ∷ boxes) (z ∷ front) (y ∷ q) r x h i b l =
    let e = and_parts (int_eq z y) (begins (front ++ x ∷ []) q) b in
    let s = same_ints z y e.0 in
    (omega (arith, ints), omega (arith, ints), cut_in boxes front q r x h i.2 e.1 l)

-- a lesser value behind the same front makes a lesser point
lesser_point : (front p q : List ℤ) (x y : ℤ) → begins (front ++ x ∷ []) p ≡ true → begins (front ++ y ∷ []) q ≡ true → x <ℤ y → Comes p q
lesser_point [] [] q x y b c l = absurd (false≢true b)
lesser_point [] (u ∷ p) [] x y b c l = absurd (false≢true c)
lesser_point [] (u ∷ p) (v ∷ q) x y b c l =
    let e = same_ints x u (and_parts (int_eq x u) true b).0 in
    let f = same_ints y v (and_parts (int_eq y v) true c).0 in
    less_comes u v p q (omega (arith, ints))
lesser_point (z ∷ front) [] q x y b c l = absurd (false≢true b)
lesser_point (z ∷ front) (u ∷ p) [] x y b c l = absurd (false≢true c)
lesser_point (z ∷ front) (u ∷ p) (v ∷ q) x y b c l =
    let e = and_parts (int_eq z u) (begins (front ++ x ∷ []) p) b in
    let f = and_parts (int_eq z v) (begins (front ++ y ∷ []) q) c in
    subst (λ w. Comes (u ∷ p) (w ∷ q)) (sym (same_ints z u e.0) ∙ same_ints z v f.0) (cons_comes u p q (lesser_point front p q x y e.1 f.1 l))

module _ (s : Rows) (front : List ℤ) (r : Range) (some : begins_some s front ≡ true) (rest : IsRest s.boxes (length front) r) where
  abbrev pub Narrow : Rows
  Narrow = with_boxes s (cut front r s.boxes)

  front_point : (p : List ℤ) × (InBox s.boxes p × (begins front p ≡ true))
  front_point = let q = any_from (begins front) (points s) some in (q.0, ((in_points s q.0 q.1.0).0, q.1.1))

  pub narrow_boxes : All IsBox s.boxes → All IsBox (cut front r s.boxes)
  narrow_boxes a = cut_boxes s.boxes front front_point.0 r a front_point.1.0 front_point.1.1 rest

  out : (q : List ℤ) → In q (points Narrow) → Goes s.boxes front q r × In q (points s)
  out q i =
      let f = in_points Narrow q i in
      let g = cut_out s.boxes front front_point.0 q r front_point.1.0 front_point.1.1 rest f.0 in
      (g, points_in s q g.inside f.1)

  back : (x : ℤ) → r.low ≤ℤ x → begins_some s (front ++ x ∷ []) ≡ true → (q : List ℤ) × (In q (points Narrow) × (begins (front ++ x ∷ []) q ≡ true))
  back x l b =
      let q = any_from (begins (front ++ x ∷ [])) (points s) b in
      let f = in_points s q.0 q.1.0 in
      (q.0, (points_in Narrow q.0 (cut_in s.boxes front q.0 r x rest f.0 q.1.1 l) f.1, q.1.1))

  pub next_none : first (points Narrow) ≡ None → IsNextValue s front r.low None
  next_none f = λ x l b. let q = back x l b in none_first (points Narrow) f q.0 q.1.0

  not_less : (p q : List ℤ) → UpTo p q → Comes q p → ⊥
  not_less p q (inl e) c = never q p c (sym e)
  not_less p q (inr d) c = not_both (λ v. v) p q d c

  pub next_some : (q : List ℤ) (v : ℤ) → first (points Narrow) ≡ Some q → v ≡ at q (length front) → IsNextValue s front r.low (Some v)
  next_some q v f e =
      let here = first_in (points Narrow) q f in
      let o = out q here in
      let begun : begins (front ++ v ∷ []) q ≡ true = subst (λ z. begins (front ++ z ∷ []) q ≡ true) (sym e) o.0.begun in (
        subst (λ z. r.low ≤ℤ z) (sym e) o.0.low,
        any_in (begins (front ++ v ∷ [])) (points s) q o.1 begun,
        λ x l h b.
            let p = back x l b in
            not_less q p.0 (first_before (points Narrow) q (points_ascend Narrow) f p.0 p.1.0) (lesser_point front p.0 q x v p.1.1 begun h),
      )

  pub next_bound : (q : List ℤ) → first (points Narrow) ≡ Some q → length front < length q
  next_bound q f =
      let l = length_inside s.boxes q (out q (first_in (points Narrow) q f)).0.inside in
      let k = rest_inside s.boxes (length front) r rest in
      omega arith

module _ (s : Rows) (front : List ℤ) (r : Range) (narrow : Rows) (found : Option (List ℤ)) (some : begins_some s front ≡ true) (rest : IsRest s.boxes (length front) r)
    (is : narrow ≡ with_boxes s (cut front r s.boxes)) (first_is : found ≡ first (points narrow)) where
  first_same : (o : Option (List ℤ)) → found ≡ o → first (points (with_boxes s (cut front r s.boxes))) ≡ o
  first_same o e = ap (λ z. first (points z)) (sym is) ∙ sym first_is ∙ e

  pub least_none : found ≡ None → IsNextValue s front r.low None
  least_none e = next_none s front r some rest (first_same None e)

  module _ (q : List ℤ) (e : found ≡ Some q) where
    pub least_bound : (lent : List ℤ) → lent ≡ q → length front < length lent
    least_bound lent l = subst (λ z. length front < length z) (sym l) (next_bound s front r some rest q (first_same (Some q) e))

    pub least_some : (lent : List ℤ) (v : ℤ) → lent ≡ q → v ≡ at lent (length front) → IsNextValue s front r.low (Some v)
    least_some lent v l h = next_some s front r some rest q v (first_same (Some q) e) (h ∙ ap (λ z. at z (length front)) l)

pub narrow_system : (s : Rows) (front : List ℤ) (r : Range) (vars : ℕ) (rows forms : List Form) (boxes lent : List Range) → IsSystem s → begins_some s front ≡ true → IsRest s.boxes (length front) r
    → vars ≡ s.vars → rows ≡ forms → forms ≡ s.rows → boxes ≡ cut front r lent → lent ≡ s.boxes → IsSystem (system vars rows boxes)
narrow_system s front r vars rows forms boxes lent k some rest v a b e l =
    let cut_is : boxes ≡ cut front r s.boxes = e ∙ ap (cut front r) l in
    let same : system vars rows boxes ≡ with_boxes s (cut front r s.boxes) =
    ap (λ z. system z rows boxes) v ∙ ap₂ (λ x y. system s.vars x y) (a ∙ b) cut_is in
    subst IsSystem (sym same)
    (record {
      few = k.few;
      rows = k.rows;
      boxes = cut_length s.boxes front r (rest_inside s.boxes (length front) r rest) ∙ k.boxes;
      each = narrow_boxes s front r some rest k.each;
    })

-- the ranges at a level

pub low_of : (boxes : List Range) (k : ℕ) (d : Range) (from : ℤ) → k < length boxes → (slice_index_or boxes k d).low ≤ℤ from → IsLow boxes k from
low_of [] k d from h l = absurd (omega arith)
low_of (b ∷ boxes) zero d from h l = l
low_of (b ∷ boxes) (suc k) d from h l = low_of boxes k d from (omega arith) l

pub rest_of : (boxes : List Range) (k : ℕ) (d r : Range) → IsLow boxes k r.low → r.low ≤ℤ r.high → r.high ≡ (slice_index_or boxes k d).high → IsRest boxes k r
rest_of [] k d r l s e = l
rest_of (b ∷ boxes) zero d r l s e = (l, s, e)
rest_of (b ∷ boxes) (suc k) d r l s e = rest_of boxes k d r l s e

-- a value with which some point goes on lies in the range of its level
value_inside : (boxes : List Range) (front q : List ℤ) (x : ℤ) (d : Range) → InBox boxes q → begins (front ++ x ∷ []) q ≡ true
    → ((slice_index_or boxes (length front) d).low ≤ℤ x) × (x ≤ℤ (slice_index_or boxes (length front) d).high)
value_inside [] [] [] x d i b = absurd (false≢true b)
value_inside [] (z ∷ front) [] x d i b = absurd (false≢true b)
value_inside [] front (y ∷ q) x d i b = absurd i
value_inside (c ∷ boxes) front [] x d i b = absurd i
value_inside (c ∷ boxes) [] (y ∷ q) x d i b =
    let e = same_ints x y (and_parts (int_eq x y) true b).0 in
    (subst (λ z. c.low ≤ℤ z) (sym e) i.0, subst (λ z. z ≤ℤ c.high) (sym e) i.1)
value_inside (c ∷ boxes) (z ∷ front) (y ∷ q) x d i b = value_inside boxes front q x d i.2 (and_parts (int_eq z y) (begins (front ++ x ∷ []) q) b).1

pub going_inside : (s : Rows) (front : List ℤ) (x : ℤ) (d : Range) → begins_some s (front ++ x ∷ []) ≡ true
    → ((slice_index_or s.boxes (length front) d).low ≤ℤ x) × (x ≤ℤ (slice_index_or s.boxes (length front) d).high)
going_inside s front x d b =
    let q = any_from (begins (front ++ x ∷ [])) (points s) b in
    value_inside s.boxes front q.0 x d (in_points s q.0 q.1.0).0 q.1.1

-- from beyond the range on there is no value
pub none_beyond : (s : Rows) (front : List ℤ) (from : ℤ) (d : Range) → (slice_index_or s.boxes (length front) d).high <ℤ from → IsNextValue s front from None
none_beyond s front from d h = λ x l b. let t = (going_inside s front x d b).1 in absurd (omega (arith, ints))

pub beyond_all : (s : Rows) (front : List ℤ) (from high : ℤ) (lent : List Range) (k : ℕ) (d : Range) → lent ≡ s.boxes → k ≡ length front → high ≡ (slice_index_or lent k d).high → high <ℤ from
    → IsNextValue s front from None
beyond_all s front from high lent k d l e h b =
    none_beyond s front from d (subst (λ z. z <ℤ from) (h ∙ ap₂ (λ xs j. (slice_index_or xs j d).high) l e) b)

pub rest_here : (s : Rows) (front lent_front : List ℤ) (lent : List Range) (k : ℕ) (d r : Range) → lent ≡ s.boxes → k ≡ length front → lent_front ≡ front → IsLow s.boxes (length front) r.low
    → r.low ≤ℤ r.high → r.high ≡ (slice_index_or lent k d).high → IsRest s.boxes (length lent_front) r
rest_here s front lent_front lent k d r l e f low some high =
    subst (λ z. IsRest s.boxes (length z) r) (sym f)
    (rest_of s.boxes (length front) d r low some (high ∙ ap₂ (λ xs j. (slice_index_or xs j d).high) l e))

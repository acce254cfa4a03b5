-- The least instance whose first values are in given ranges, from the least point of a system with narrower ranges.
use Rattle.std.proofs.Common.{◌≡◌, refl, sym, ap, ap₂, ◌∙◌, subst, ℕ, zero, suc, ◌+◌, ◌<◌, ◌≤◌, ◌^◌, ℤ, pos, ◌+ℤ◌, ◌≤ℤ◌, ◌<ℤ◌, Option, Some, None, List, [], ◌∷◌, ◌++◌, length, map, take, get_or, inl, inr, arith, Result, Ok, Err, IfOk, MatchOption, length-take-le}
use Rattle.std.specs.declared.alloc.AllocError.{AllocError}
use Rattle.std.specs.List.{All}
use Rattle.std.proofs.lemmas.Int.{ints, clamps}
use Rattle.std.proofs.lemmas.List.{take_all, take_more}
use Rattle.std.proofs.lemmas.List.Elements.{All-head, All-push, All-tail}
use Rattle.ch_affine.specs.Affine.{IsAtMost}
use Rattle.ch_affine.specs.Form.{Form}
use Rattle.ch_affine.specs.Rows.{IsBox, IsSystem, Rows, all_hold, system}
use Rattle.ch_affine.specs.declared.system.Range.{Range}
use Rattle.ch_poly.specs.Points.{box_points, first, points}
use Rattle.ch_poly.proofs.Firsts.{InBox}
use Rattle.ch_timed.specs.Members.{In}
use Rattle.ch_space.specs.declared.piece.Piece.{Piece}
use Rattle.ch_space.specs.Following.{BeginsIn, BeginsWith, HasEmpty, IsAbove, IsAny, IsLeast, UpTo, narrowed, shared, single, with_boxes}
use Rattle.ch_space.specs.Keeps.{IsWhole}
use Rattle.ch_space.specs.Pieces.{instances}
use Rattle.ch_space.proofs.EndsOf.{first_before, first_in, front_in, front_of, instance_small, none_first, points_ascend, take_up_to}
use Rattle.ch_space.proofs.Followings.{least_same}
use Rattle.ch_space.proofs.Membership.{box_points_in, filter_in, in_box_points, in_filter, length_inside}

-- values in single ranges are fixed

singles_begin : (fixed xs : List ℤ) → BeginsIn (map single fixed) xs → BeginsWith fixed IsAny xs
singles_begin [] xs b = tt
singles_begin (f ∷ fixed) [] b = b
singles_begin (f ∷ fixed) (x ∷ xs) b = (let l = b.0 in let h = b.1 in omega (arith, ints), singles_begin fixed xs b.2)

begin_singles : (fixed xs : List ℤ) → BeginsWith fixed IsAny xs → BeginsIn (map single fixed) xs
begin_singles [] xs b = tt
begin_singles (f ∷ fixed) [] b = b
begin_singles (f ∷ fixed) (x ∷ xs) b = (let e = b.0 in omega (arith, ints), let e = b.0 in omega (arith, ints), begin_singles fixed xs b.1)

beyond_above : (fixed xs : List ℤ) (value : ℤ) (r : Range) → r.low ≡ value +ℤ pos 1 → BeginsIn (map single fixed ++ r ∷ []) xs → BeginsWith fixed (IsAbove value) xs
beyond_above [] [] value r l b = b
beyond_above [] (x ∷ xs) value r l b = (let h = b.0 in omega (arith, ints))
beyond_above (f ∷ fixed) [] value r l b = b
beyond_above (f ∷ fixed) (x ∷ xs) value r l b = (let l = b.0 in let h = b.1 in omega (arith, ints), beyond_above fixed xs value r l b.2)

above_beyond : (fixed xs : List ℤ) (value : ℤ) (r : Range) → r.low ≡ value +ℤ pos 1 → r.high ≡ pos (2 ^ 54) → All (IsAtMost (2 ^ 54)) xs → BeginsWith fixed (IsAbove value) xs
    → BeginsIn (map single fixed ++ r ∷ []) xs
above_beyond [] [] value r l h small b = b
above_beyond [] (x ∷ xs) value r l h small b = (let k = b in omega (arith, ints), at_most x (All-head (IsAtMost (2 ^ 54)) x xs small) r.high h, tt)
  where
    at_most : (x : ℤ) → IsAtMost (2 ^ 54) x → (top : ℤ) → top ≡ pos (2 ^ 54) → x ≤ℤ top
    at_most x h top e = omega (arith, ints)
above_beyond (f ∷ fixed) [] value r l h small b = b
above_beyond (f ∷ fixed) (x ∷ xs) value r l h small b =
    (let e = b.0 in omega (arith, ints), let e = b.0 in omega (arith, ints), above_beyond fixed xs value r l h (All-tail (IsAtMost (2 ^ 54)) x xs small) b.1)

none_above : (fixed xs : List ℤ) (value : ℤ) → pos (2 ^ 54) ≤ℤ value → All (IsAtMost (2 ^ 54)) xs → BeginsWith fixed (IsAbove value) xs → ⊥
none_above [] [] value far small b = b
none_above [] (x ∷ xs) value far small b = too_far x (All-head (IsAtMost (2 ^ 54)) x xs small) b
  where
    too_far : (x : ℤ) → IsAtMost (2 ^ 54) x → value <ℤ x → ⊥
    too_far x h l = absurd (omega (arith, ints))
none_above (f ∷ fixed) [] value far small b = b
none_above (f ∷ fixed) (x ∷ xs) value far small b = none_above fixed xs value far (All-tail (IsAtMost (2 ^ 54)) x xs small) b.1

-- narrower ranges

pub length_narrowed : (boxes front : List Range) → length (narrowed boxes front) ≡ length boxes
length_narrowed [] front = refl
length_narrowed (b ∷ boxes) [] = refl
length_narrowed (b ∷ boxes) (f ∷ front) = ap suc (length_narrowed boxes front)

narrow_in : (boxes front : List Range) (xs : List ℤ) → length front ≤ length boxes → InBox (narrowed boxes front) xs → InBox boxes xs × BeginsIn front xs
narrow_in [] [] xs l i = (i, tt)
narrow_in [] (f ∷ front) xs l i = absurd (omega arith)
narrow_in (b ∷ boxes) [] xs l i = (i, tt)
narrow_in (b ∷ boxes) (f ∷ front) [] l i = absurd i
narrow_in (b ∷ boxes) (f ∷ front) (x ∷ xs) l i =
    let r = narrow_in boxes front xs (omega arith) i.2 in
    let low = i.0 in
    let high = i.1 in (
      (omega (arith, ints, clamps), omega (arith, ints, clamps), r.0),
      (omega (arith, ints, clamps), omega (arith, ints, clamps), r.1),
    )

in_narrow : (boxes front : List Range) (xs : List ℤ) → InBox boxes xs → BeginsIn front xs → InBox (narrowed boxes front) xs
in_narrow [] front [] i b = tt
in_narrow [] front (x ∷ xs) i b = i
in_narrow (r ∷ boxes) [] xs i b = i
in_narrow (r ∷ boxes) (f ∷ front) [] i b = i
in_narrow (r ∷ boxes) (f ∷ front) (x ∷ xs) i b =
    let low = i.0 in
    let high = i.1 in
    let from = b.0 in
    let to = b.1 in
    (omega (arith, ints, clamps), omega (arith, ints, clamps), in_narrow boxes front xs i.2 b.2)

empty_never : (boxes : List Range) (xs : List ℤ) → HasEmpty boxes → InBox boxes xs → ⊥
empty_never [] xs e i = e
empty_never (b ∷ boxes) [] e i = i
empty_never (b ∷ boxes) (x ∷ xs) (inl l) i = (let low = i.0 in let high = i.1 in absurd (omega (arith, ints)))
empty_never (b ∷ boxes) (x ∷ xs) (inr e) i = empty_never boxes xs e i.2

pub empty_at : (boxes : List Range) (k : ℕ) (d : Range) → k < length boxes → (get_or boxes k d).high <ℤ (get_or boxes k d).low → HasEmpty boxes
empty_at [] k d l h = absurd (omega arith)
empty_at (b ∷ boxes) zero d l h = inl h
empty_at (b ∷ boxes) (suc k) d l h = inr (empty_at boxes k d (omega arith) h)

pub narrowed_front : (boxes front : List Range) (k : ℕ) (d e : Range) → k < length boxes → k < length front → get_or (narrowed boxes front) k d ≡ shared (get_or boxes k d) (get_or front k e)
narrowed_front [] front k d e l m = absurd (omega arith)
narrowed_front (b ∷ boxes) [] k d e l m = absurd (omega arith)
narrowed_front (b ∷ boxes) (f ∷ front) zero d e l m = refl
narrowed_front (b ∷ boxes) (f ∷ front) (suc k) d e l m = narrowed_front boxes front k d e (omega arith) (omega arith)

pub narrowed_back : (boxes front : List Range) (k : ℕ) (d : Range) → length front ≤ k → get_or (narrowed boxes front) k d ≡ get_or boxes k d
narrowed_back [] front k d l = refl
narrowed_back (b ∷ boxes) [] k d l = refl
narrowed_back (b ∷ boxes) (f ∷ front) zero d l = absurd (omega arith)
narrowed_back (b ∷ boxes) (f ∷ front) (suc k) d l = narrowed_back boxes front k d (omega arith)

pub shared_box : (a b : Range) → IsBox a → (shared a b).low ≤ℤ (shared a b).high → IsBox (shared a b)
shared_box a b h some =
    let l = h.low in
    let t = h.high in
    let s = h.some in
    record { low = omega (arith, ints, clamps); high = omega (arith, ints, clamps); some = some }

-- first values

begins_take : (front : List Range) (n : ℕ) (xs : List ℤ) → length front ≤ n → BeginsIn front xs → BeginsIn front (take n xs)
begins_take [] n xs l b = tt
begins_take (f ∷ front) zero xs l b = absurd (omega arith)
begins_take (f ∷ front) (suc n) [] l b = b
begins_take (f ∷ front) (suc n) (x ∷ xs) l b = (b.0, b.1, begins_take front n xs (omega arith) b.2)

take_begins : (front : List Range) (n : ℕ) (xs : List ℤ) → BeginsIn front (take n xs) → BeginsIn front xs
take_begins [] n xs b = tt
take_begins (f ∷ front) zero xs b = absurd b
take_begins (f ∷ front) (suc n) [] b = b
take_begins (f ∷ front) (suc n) (x ∷ xs) b = (b.0, b.1, take_begins front n xs b.2)

-- the least instance

module _ (p : Piece) (front : List Range) (w : IsWhole p) (few : length front ≤ p.levels) where
  abbrev pub Narrow : Rows
  Narrow = with_boxes p.system (narrowed p.system.boxes front)

  point_out : (q : List ℤ) → In q (points Narrow) → In q (points p.system) × BeginsIn front q
  point_out q i =
      let f = in_filter (all_hold p.system.rows) (box_points (narrowed p.system.boxes front)) q i in
      let b = w.boxes in
      let n = narrow_in p.system.boxes front q (omega arith) (in_box_points (narrowed p.system.boxes front) q f.0) in
      (filter_in (all_hold p.system.rows) (box_points p.system.boxes) q (box_points_in p.system.boxes q n.0) f.1, n.1)

  point_in : (q : List ℤ) → In q (points p.system) → BeginsIn front q → In q (points Narrow)
  point_in q i b =
      let f = in_filter (all_hold p.system.rows) (box_points p.system.boxes) q i in
      filter_in (all_hold p.system.rows) (box_points (narrowed p.system.boxes front)) q
      (box_points_in (narrowed p.system.boxes front) q (in_narrow p.system.boxes front q (in_box_points p.system.boxes q f.0) b)) f.1

  -- a point for each instance that begins in the ranges
  instance_point : (xs : List ℤ) → In xs (instances p) → BeginsIn front xs → (q : List ℤ) × (In q (points Narrow) × (take p.levels q ≡ xs))
  instance_point xs i b =
      let r = front_of p xs w i in
      (r.0, (point_in r.0 r.1.0 (take_begins front p.levels r.0 (subst (BeginsIn front) (sym r.1.1) b)), r.1.1))

  point_long : (q : List ℤ) → In q (points Narrow) → length q ≡ length p.system.boxes
  point_long q i =
      length_inside p.system.boxes q (in_box_points p.system.boxes q (in_filter (all_hold p.system.rows) (box_points p.system.boxes) q (point_out q i).0).0)

  pub narrow_long : (q : List ℤ) → first (points Narrow) ≡ Some q → p.levels ≤ length q
  narrow_long q f = let l = point_long q (first_in (points Narrow) q f) in let b = w.boxes in omega arith

  pub least_none : first (points Narrow) ≡ None → IsLeast (BeginsIn front) (instances p) None
  least_none f = λ xs i b. let r = instance_point xs i b in none_first (points Narrow) f r.0 r.1.0

  pub least_some : (q : List ℤ) → first (points Narrow) ≡ Some q → IsLeast (BeginsIn front) (instances p) (Some (take p.levels q))
  least_some q f =
      let here = first_in (points Narrow) q f in
      let out = point_out q here in (
        front_in p q out.0,
        begins_take front p.levels q few out.1,
        λ xs i b.
            let r = instance_point xs i b in
            let same : length q ≡ length r.0 = point_long q here ∙ sym (point_long r.0 r.1.0) in
            subst (UpTo (take p.levels q)) r.1.1 (take_up_to p.levels q r.0 same (first_before (points Narrow) q (points_ascend Narrow) f r.0 r.1.0)),
      )

  pub least_empty : HasEmpty (narrowed p.system.boxes front) → IsLeast (BeginsIn front) (instances p) None
  least_empty e = λ xs i b.
      let r = instance_point xs i b in
      empty_never (narrowed p.system.boxes front) r.0 e
      (in_box_points (narrowed p.system.boxes front) r.0 (in_filter (all_hold p.system.rows) (box_points (narrowed p.system.boxes front)) r.0 r.1.0).0)

pub narrow_system : (s : Rows) (rows : List Form) (boxes front : List Range) → IsSystem s → rows ≡ s.rows → (boxes ≡ narrowed s.boxes front) × All IsBox boxes → IsSystem (system s.vars rows boxes)
narrow_system s rows boxes front k r e = record {
  few = k.few;
  rows = subst (All (λ f. length f.coefs ≡ s.vars)) (sym r) k.rows;
  boxes = ap length e.0 ∙ length_narrowed s.boxes front ∙ k.boxes;
  each = e.1;
}

module _ (p : Piece) (fixed : List ℤ) (r : Option (List ℤ)) where
  pub least_fixed : IsLeast (BeginsIn (map single fixed)) (instances p) r → IsLeast (BeginsWith fixed IsAny) (instances p) r
  least_fixed h =
      least_same (BeginsIn (map single fixed)) (BeginsWith fixed IsAny) (instances p) r (λ xs i b. singles_begin fixed xs b) (λ xs i b. begin_singles fixed xs b) h

  pub least_above : (value : ℤ) (range : Range) → IsSystem p.system → range.low ≡ value +ℤ pos 1 → range.high ≡ pos (2 ^ 54)
      → IsLeast (BeginsIn (map single fixed ++ range ∷ [])) (instances p) r → IsLeast (BeginsWith fixed (IsAbove value)) (instances p) r
  least_above value range s l h least =
      least_same (BeginsIn (map single fixed ++ range ∷ [])) (BeginsWith fixed (IsAbove value)) (instances p) r
      (λ xs i b. beyond_above fixed xs value range l b)
      (λ xs i b. above_beyond fixed xs value range l h (instance_small p xs s i) b) least

pub least_too_far : (p : Piece) (fixed : List ℤ) (value : ℤ) → IsSystem p.system → pos (2 ^ 54) ≤ℤ value → IsLeast (BeginsWith fixed (IsAbove value)) (instances p) None
least_too_far p fixed value s far = λ xs i b. none_above fixed xs value far (instance_small p xs s i) b

-- the ranges one by one

pub narrowed_more : (boxes front narrow new : List Range) (k : ℕ) (range d : Range) → k < length boxes → (narrow ≡ take k (narrowed boxes front)) × All IsBox narrow → new ≡ narrow ++ range ∷ []
    → range ≡ get_or (narrowed boxes front) k d → IsBox range → (new ≡ take (k + 1) (narrowed boxes front)) × All IsBox new
narrowed_more boxes front narrow new k range d l h e is box =
    let n = length_narrowed boxes front in (
      e ∙ ap₂ (λ xs x. xs ++ x ∷ []) h.0 is ∙ sym (take_more (narrowed boxes front) k d (omega arith)),
      subst (All IsBox) (sym e) (All-push IsBox narrow range h.1 box),
    )

pub narrowed_all : (boxes front narrow : List Range) (k : ℕ) → length boxes ≤ k → (narrow ≡ take k (narrowed boxes front)) × All IsBox narrow → (narrow ≡ narrowed boxes front) × All IsBox narrow
narrowed_all boxes front narrow k l h = let n = length_narrowed boxes front in (h.0 ∙ take_all k (narrowed boxes front) (omega arith), h.1)

pub least_fixed_ok : (p : Piece) (fixed : List ℤ) (front made : List Range) (r : Result (Option (List ℤ)) AllocError) → front ≡ made → made ≡ map single fixed
    → IfOk r (λ m. IsLeast (BeginsIn front) (instances p) m) → IfOk r (λ m. IsLeast (BeginsWith fixed IsAny) (instances p) m)
least_fixed_ok p fixed front made (Err o) e f h = tt
least_fixed_ok p fixed front made (Ok m) e f h = least_fixed p fixed m (subst (λ z. IsLeast (BeginsIn z) (instances p) m) (e ∙ f) h)

pub least_above_ok : (p : Piece) (fixed : List ℤ) (value : ℤ) (range : Range) (front pushed made : List Range) (r : Result (Option (List ℤ)) AllocError) → IsSystem p.system
    → range.low ≡ value +ℤ pos 1 → range.high ≡ pos (2 ^ 54) → front ≡ pushed → pushed ≡ made ++ range ∷ [] → made ≡ map single fixed
    → IfOk r (λ m. IsLeast (BeginsIn front) (instances p) m) → IfOk r (λ m. IsLeast (BeginsWith fixed (IsAbove value)) (instances p) m)
least_above_ok p fixed value range front pushed made (Err o) s l t e f g h = tt
least_above_ok p fixed value range front pushed made (Ok m) s l t e f g h =
    least_above p fixed m value range s l t (subst (λ z. IsLeast (BeginsIn z) (instances p) m) (e ∙ f ∙ ap (λ z. z ++ range ∷ []) g) h)

-- What the search of the narrower system answers.

abbrev pub IsNarrow : Rows → List Range → Option Rows → Type 0
IsNarrow s front some = MatchOption some (HasEmpty (narrowed s.boxes front)) (λ narrow. narrow ≡ with_boxes s (narrowed s.boxes front))

narrow_none : (s : Rows) (front : List Range) (some : Option Rows) → some ≡ None → IsNarrow s front some → HasEmpty (narrowed s.boxes front)
narrow_none s front some e h = subst (IsNarrow s front) e h

narrow_some : (s : Rows) (front : List Range) (some : Option Rows) (t : Rows) → some ≡ Some t → IsNarrow s front some → t ≡ with_boxes s (narrowed s.boxes front)
narrow_some s front some t e h = subst (IsNarrow s front) e h

module _ (p : Piece) (front : List Range) (w : IsWhole p) (few : length front ≤ p.levels) (some : Option Rows) where
  pub empty_least : some ≡ None → IsNarrow p.system front some → IsLeast (BeginsIn front) (instances p) None
  empty_least e h = least_empty p front w few (narrow_none p.system front some e h)

  module _ (t : Rows) (e : some ≡ Some t) (h : IsNarrow p.system front some) where
    pub none_least : first (points t) ≡ None → IsLeast (BeginsIn front) (instances p) None
    none_least f = least_none p front w few (subst (λ z. first (points z) ≡ None) (narrow_some p.system front some t e h) f)

    module _ (q s : List ℤ) where
      found : first (points t) ≡ Some q → first (points (Narrow p front w few)) ≡ Some q
      found f = subst (λ z. first (points z) ≡ Some q) (narrow_some p.system front some t e h) f

      pub least_bound : first (points t) ≡ Some q → s ≡ q → p.levels ≡ length (take p.levels s)
      least_bound f g = sym (length-take-le p.levels s (subst (λ z. p.levels ≤ length z) (sym g) (narrow_long p front w few q (found f))))

      pub some_least : (m : List ℤ) → first (points t) ≡ Some q → s ≡ q → m ≡ take p.levels s → IsLeast (BeginsIn front) (instances p) (Some m)
      some_least m f g k = subst (λ z. IsLeast (BeginsIn front) (instances p) (Some z)) (sym (k ∙ ap (take p.levels) g)) (least_some p front w few q (found f))

-- Pieces over new levels are changed ones, for each of the two changes.
use Rattle.std.proofs.Common.{◌≡◌, refl, sym, ap, ap₂, ◌∙◌, subst, ℕ, ◌+◌, ◌*◌, ◌≤◌, ◌^◌, ℤ, pos, ◌≤ℤ◌, true, List, [], ◌∷◌, map, length, get_or, take, Result, Ok, Err, arith}
use Rattle.ch_moved.specs.Room.{HasRoom}
use Rattle.std.specs.Result.{IfOk}
use Rattle.std.specs.declared.alloc.AllocError.{AllocError}
use Rattle.std.specs.List.{All}
use Rattle.std.proofs.lemmas.List.{append-nil, length-map}
use Rattle.std.proofs.lemmas.List.Elements.{All-head, All-map, All-tail}
use Rattle.ch_affine.specs.Affine.{IsAtMost, IsSmall, value}
use Rattle.ch_affine.specs.Form.{Form}
use Rattle.ch_affine.specs.Rows.{IsBox, lies_in}
use Rattle.ch_affine.specs.declared.system.Range.{Range}
use Rattle.ch_moved.specs.Changed.{AllLong}
use Rattle.ch_moved.specs.Reindexed.{IsReindexed}
use Rattle.ch_moved.specs.Substituted.{image, substituted}
use Rattle.ch_moved.proofs.Substitutes.{value_spread}
use Rattle.ch_permute.specs.Changed.{FitPiece, IsChanged}
use Rattle.ch_moved.proofs.Limits.{far_most, length_substituted, narrow_small}
use Rattle.ch_moved.proofs.Values.{lies_length}
use Rattle.ch_space.specs.Keeps.{IsBounded, IsLimited, IsNarrow, IsWhole, farthest, places_of}
use Rattle.ch_space.specs.Pieces.{element_at, instances}
use Rattle.ch_space.specs.declared.piece.Piece.{Piece}
use Rattle.ch_space.proofs.Counted.{box_points_lie}
use Rattle.ch_space.proofs.Membership.{box_points_in, in_instances}
use Rattle.ch_space.proofs.PieceElements.{levels_of}
use Rattle.ch_timed.specs.Closed.{at_vector}
use Rattle.ch_timed.specs.Members.{In}
use Rattle.ch_timed.specs.Vectors.{woven}

-- the iterators from the new values

value_put : (n : ℕ) (gs : List Form) (f : Form) (ys : List ℤ) → length ys ≡ n → AllLong n gs → length f.coefs ≡ length gs → value (substituted n gs f) ys ≡ value f (image gs ys)
value_put n gs f ys e long m =
    ap (value (substituted n gs f)) (sym (append-nil ys)) ∙ value_spread n 0 gs f ys [] [] e refl long (omega arith) ∙ ap (value f) (append-nil (image gs ys))

iterators_put : (n : ℕ) (gs fs : List Form) (ys : List ℤ) → length ys ≡ n → AllLong n gs → All (λ f. length f.coefs ≡ length gs) fs
    → map (λ f. value f ys) (map (substituted n gs) fs) ≡ map (λ f. value f (image gs ys)) fs
iterators_put n gs [] ys e long all = refl
iterators_put n gs (f ∷ fs) ys e long all =
    ap₂ (λ x xs. x ∷ xs) (value_put n gs f ys e long (All-head (λ g. length g.coefs ≡ length gs) f fs all)) (iterators_put n gs fs ys e long (All-tail (λ g. length g.coefs ≡ length gs) f fs all))

lies_of : (p : Piece) (xs : List ℤ) → In xs (instances p) → lies_in (take p.levels p.system.boxes) xs ≡ true
lies_of p xs i = box_points_lie (take p.levels p.system.boxes) xs (box_points_in (take p.levels p.system.boxes) xs (in_instances p xs i).inside)

-- the range has a number
abbrev pub IsOrdered : Range → Type 0
IsOrdered b = b.low ≤ℤ b.high

-- a change of one piece: the forms and the ranges of the new levels, and what they do
pub record Changes (new : List ℤ → List ℤ) (by : ℕ) (p : Piece) (gs : List Form) (boxes : List Range) : Type 0 where
  pub many : length gs ≡ p.levels
  pub long : AllLong p.levels gs
  pub boxed : length boxes ≡ p.levels
  pub there : (xs : List ℤ) → length xs ≡ p.levels → image gs (new xs) ≡ xs
  pub back : (ys : List ℤ) → length ys ≡ p.levels → new (image gs ys) ≡ ys
  pub same_length : (xs : List ℤ) → length (new xs) ≡ length xs
  pub lies : (xs : List ℤ) → lies_in (take p.levels p.system.boxes) xs ≡ true → lies_in boxes (new xs) ≡ true
  pub ordered : All IsBox p.system.boxes → All IsOrdered boxes
  pub constants : All (λ g. IsAtMost (2 ^ 20) g.constant) gs
  pub bounded : (w c : ℕ) → 1 ≤ w → All (IsBounded (farthest w c)) (take p.levels p.system.boxes) → All (IsBounded (farthest (w * by) (c + 1))) boxes
  pub narrow : (w c : ℕ) (f : Form) → 1 ≤ w → length f.coefs ≡ p.levels → IsNarrow w c f → IsNarrow (w * by) (c + 1) (substituted p.levels gs f)

module _ (new : List ℤ → List ℤ) (by : ℕ) (p q : Piece) (gs : List Form) (boxes : List Range) (h : Changes new by p gs boxes) (w : IsWhole p)
    (r : IsReindexed p gs boxes [] p.places q) where
  at : (xs : List ℤ) → In xs (instances p) → length (new xs) ≡ p.levels
  at xs i = h.same_length xs ∙ levels_of p xs w i

  goes : (xs : List ℤ) → In xs (instances p) → In (new xs) (instances q)
  goes xs i =
      (r.is_instance (new xs)).1 (h.lies xs (lies_of p xs i), refl, subst (λ z. In z (instances p)) (sym (h.there xs (levels_of p xs w i))) i)

  comes : (ys : List ℤ) → In ys (instances q) → (xs : List ℤ) × (In xs (instances p) × (new xs ≡ ys))
  comes ys i =
      let s = (r.is_instance ys).0 i in
      let n : length ys ≡ p.levels = lies_length boxes ys s.0 ∙ h.boxed in
      (image gs ys, (s.2, h.back ys n))

  iterators : (xs : List ℤ) → In xs (instances p) → map (λ f. value f xs) p.origin ≡ map (λ f. value f (new xs)) q.origin
  iterators xs i =
      sym (ap (map (λ f. value f (new xs))) (r.origin ∙ ap (λ n. map (substituted n gs) p.origin) h.boxed)
      ∙ iterators_put p.levels gs p.origin (new xs) (at xs i) h.long (λ k d l. w.origin k d l ∙ sym h.many)
      ∙ ap (λ z. map (λ f. value f z) p.origin) (h.there xs (levels_of p xs w i)))

  element : (xs : List ℤ) → In xs (instances p) → at_vector (element_at p xs) (woven (places_of p) (new xs)) ≡ element_at q (new xs)
  element xs i = λ j. record {
    identity = record { label = sym r.label j; iters = iterators xs i j };
    vector = woven (map pos (sym r.places j)) (new xs);
    body = sym r.body j;
  }

  keeps_limits : (weight commands : ℕ) → 1 ≤ weight → 1 ≤ by → IsLimited weight commands p → IsLimited (weight * by) (commands + 1) q
  keeps_limits weight commands some grows l =
      let e : q.levels ≡ p.levels = r.levels ∙ h.boxed in
      let n = ap length r.origin ∙ length-map p.origin (substituted (length boxes) gs) in
      record {
        levels = let m = l.levels in omega arith;
        iterators = let m = l.iterators in omega arith;
        variables = let m = l.levels in let v = l.variables in let f = r.few_hidden in omega arith;
        boxes = subst (All (IsBounded (farthest (weight * by) (commands + 1)))) (sym r.ranges) (h.bounded weight commands some l.boxes);
        origin = subst (All (IsNarrow (weight * by) (commands + 1))) (sym (r.origin ∙ ap (λ m. map (substituted m gs) p.origin) h.boxed)) (narrow_all some l);
      }
    where
      narrow_map : (fs : List Form) → 1 ≤ weight → All (λ f. length f.coefs ≡ p.levels) fs → All (IsNarrow weight commands) fs → All (IsNarrow (weight * by) (commands + 1)) (map (substituted p.levels gs) fs)
      narrow_map fs some a b = All-map (IsNarrow (weight * by) (commands + 1)) (substituted p.levels gs) fs (λ k d m. h.narrow weight commands (get_or fs k d) some (a k d m) (b k d m))

      narrow_all : 1 ≤ weight → IsLimited weight commands p → All (IsNarrow (weight * by) (commands + 1)) (map (substituted p.levels gs) p.origin)
      narrow_all some l = narrow_map p.origin some w.origin l.origin

  pub changed : IsChanged new by p q
  changed = record {
    whole = r.whole;
    places = r.places;
    label = r.label;
    body = r.body;
    iterators = ap length r.origin ∙ length-map p.origin (substituted (length boxes) gs);
    forth = goes;
    back = comes;
    element = element;
    limited = keeps_limits;
  }

-- what the change of variables asks for, where the numbers have room
module _ (new : List ℤ → List ℤ) (by : ℕ) (p : Piece) (gs : List Form) (boxes : List Range) (h : Changes new by p gs boxes) (w : IsWhole p) (room : HasRoom by p) where
  pub few_variables : length boxes + (p.levels + p.hidden) ≤ 4096
  few_variables =
      let a = h.boxed in
      let l = room.limited.levels in
      let v = room.limited.variables in
      let c = room.few in
      omega arith

  pub origin_small : All (λ f. IsSmall (substituted (length boxes) gs f)) p.origin
  origin_small k d l =
      let f = get_or p.origin k d in
      let e = w.origin k d l in
      let a = room.few in
      let b = room.limited.levels in
      subst (λ n. IsSmall (substituted n gs f)) (sym h.boxed)
      (narrow_small p.levels (substituted p.levels gs f) (room.weight * by) (room.commands + 1) (length_substituted p.levels gs f h.long (e ∙ sym h.many)) b room.small (omega arith)
      (h.narrow room.weight room.commands f room.some e (room.limited.origin k d l)))

  pub far_boxes : All (IsBounded (2 ^ 51)) boxes
  far_boxes k d l =
      let b = h.bounded room.weight room.commands room.some room.limited.boxes k d l in
      let a = room.few in
      let f = far_most (room.weight * by) (room.commands + 1) room.small (omega arith) in
      record { low = let m = b.low in omega arith; high = let m = b.high in omega arith }

  pub are_boxes : All IsBox p.system.boxes → All IsBox boxes
  are_boxes old k d l =
      let b = far_boxes k d l in
      record { low = let m = b.low in omega arith; high = let m = b.high in omega arith; some = h.ordered old k d l }

  pub near_forms : All (λ g. IsAtMost (2 ^ 59) g.constant) gs
  near_forms k d l = let b = h.constants k d l in omega arith

  pub fits : All IsBox p.system.boxes → FitPiece p gs boxes
  fits old = record {
    levels = room.limited.levels;
    many = h.many;
    boxed = h.boxed;
    long = λ k d l. h.long k d l ∙ sym h.boxed;
    near = near_forms;
    ranges = are_boxes old;
    few = few_variables;
    origin = origin_small;
  }

pub changes : (new : List ℤ → List ℤ) (by : ℕ) (p : Piece) (gs : List Form) (boxes : List Range) (r : Result Piece AllocError) → Changes new by p gs boxes → IsWhole p
    → IfOk r (λ q. IsReindexed p gs boxes [] p.places q) → IfOk r (λ q. IsChanged new by p q)
changes new by p gs boxes (Ok q) h w i = changed new by p q gs boxes h w i
changes new by p gs boxes (Err e) h w i = tt

pub same_changes : (new : List ℤ → List ℤ) (by : ℕ) (p : Piece) (gs hs : List Form) (boxes ranges : List Range) → Changes new by p gs boxes → hs ≡ gs → ranges ≡ boxes → Changes new by p hs ranges
same_changes new by p gs hs boxes ranges h e f = subst (λ z. Changes new by p hs z) (sym f) (subst (λ z. Changes new by p z boxes) (sym e) h)

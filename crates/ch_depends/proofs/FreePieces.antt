-- Whether elements are of a listed pair of pieces, told by the numbers of their pieces.
use Rattle.std.proofs.Common.{◌≡◌, refl, sym, ap, ap₂, ◌∙◌, subst, ℕ, zero, suc, ◌+◌, ◌<◌, ℤ, nat_eq, Bool, true, false, ◌&&◌, ◌||◌, List, [], ◌∷◌, length, map, get_or, pos, inl, inr, arith}
use Rattle.std.proofs.lemmas.Bool.{cases_lt, eq-eqb, eqb-true}
use Rattle.std.proofs.lemmas.List.{get_or-map, length-map}
use Rattle.std.proofs.Math.ListN.{get_or-eq_default}
use Rattle.std.specs.Ordering.{int_cmp}
use Rattle.std.specs.declared.cmp.Ordering.TheVariants.{Less}
use Rattle.std.specs.Cmp.Lexicographic.{slice_cmp}
use Rattle.ch_depends.specs.declared.sides.Side.{Side}
use Rattle.ch_depends.specs.Free.{are_free}
use Rattle.ch_depends.specs.Sought.{AreNumbered, is_listed}
use Rattle.ch_depends.specs.declared.answers.PiecePair.{PiecePair}
use Rattle.ch_order.proofs.Equality.{numbers_are, numbers_same}
use Rattle.ch_space.specs.declared.piece.Piece.{Piece}
use Rattle.ch_space.specs.Keeps.{AreApart, IsWhole, places_of}
use Rattle.ch_space.specs.Pieces.{listed}
use Rattle.ch_space.proofs.PieceElements.{whole_in}
use Rattle.ch_space.proofs.PieceNumbers.{nth_in, numbered, places_ascend}
use Rattle.ch_timed.specs.declared.element.Element.{Element}
use Rattle.ch_timed.specs.Groups.{piece}
use Rattle.ch_timed.specs.Members.{In}
use Rattle.ch_timed.specs.Vectors.{places, same_numbers}
use Rattle.ch_timed.proofs.Orders.{IsAscending, at_each, not_itself}

pub nth_of : {X : Type 0} (xs : List X) (x d : X) → In x xs → (k : ℕ) × ((k < length xs) × (get_or xs k d ≡ x))
nth_of [] x d i = absurd i
nth_of (y ∷ ys) x d (inl e) = (zero, (omega arith, e))
nth_of (y ∷ ys) x d (inr i) = let r = nth_of ys x d i in (suc r.0, (let l = r.1.0 in omega arith, r.1.1))

-- a list in order has each of its members once
once : (vs : List (List ℤ)) (j k : ℕ) → IsAscending (λ v. v) vs → j < length vs → k < length vs → get_or vs j [] ≡ get_or vs k [] → j ≡ k
once [] j k a h g e = absurd (omega arith)
once (v ∷ vs) zero zero a h g e = refl
once (v ∷ vs) zero (suc k) a h g e = absurd (not_itself (λ v. v) v (subst (λ z. slice_cmp int_cmp v z ≡ Less) (sym e) (at_each _ vs a.0 (get_or vs k []) (nth_in vs k [] (omega arith)))))
once (v ∷ vs) (suc j) zero a h g e = absurd (not_itself (λ v. v) v (subst (λ z. slice_cmp int_cmp v z ≡ Less) e (at_each _ vs a.0 (get_or vs j []) (nth_in vs j [] (omega arith)))))
once (v ∷ vs) (suc j) (suc k) a h g e = ap suc (once vs j k a.1 (omega arith) (omega arith) e)

pub same_answer : (t u : Bool) → (t ≡ true → u ≡ true) → (u ≡ true → t ≡ true) → t ≡ u
same_answer true u f g = sym (f refl)
same_answer false true f g = g refl
same_answer false false f g = refl

-- a piece of the list by its number, and an element that stands at its places
pub record IsOf (ps : List Piece) (n : ℕ) (p : Piece) (e : Element) : Type 0 where
  pub below : n < length ps
  pub is : get_or ps n p ≡ p
  pub stands : places e.vector ≡ places_of p

module _ (olds : List Piece) (apart : AreApart olds) where
  abbrev all : List (List ℤ)
  all = map places_of olds

  long_all : length all ≡ length olds
  long_all = length-map olds places_of

  some_place : (p : Piece) → IsWhole p → [] ≡ places_of p → ⊥
  some_place p w e = let m : 0 ≡ length (places_of p) = ap length e in let n = length-map p.places pos in let l = w.places in omega arith

  -- whether a number is that of the element's piece
  pub number_test : (k n : ℕ) (p : Piece) (e : Element) → IsOf olds n p e → same_numbers (piece (listed olds) k) (places e.vector) ≡ nat_eq k n
  number_test k n p e o =
      let here : get_or all n [] ≡ places_of p = get_or-map places_of olds n p [] o.below ∙ ap places_of o.is in
      let nth : piece (listed olds) k ≡ get_or all k [] = ap (λ z. get_or z k []) (numbered olds apart) in
      let inside : In p olds = subst (λ z. In z olds) o.is (nth_in olds n p o.below) in
      same_answer (same_numbers (piece (listed olds) k) (places e.vector)) (nat_eq k n)
      (λ t.
      let is : get_or all k [] ≡ places_of p = sym nth ∙ numbers_are (piece (listed olds) k) (places e.vector) t ∙ o.stands in
      eq-eqb k n (elim (cases_lt k (length all)) as (λ _. k ≡ n) [
        | inl b ↦ once all k n (places_ascend olds apart) b (subst (λ m. n < m) (sym long_all) o.below) (is ∙ sym here)
        | inr b ↦ absurd (some_place p (whole_in olds p apart inside) (sym (get_or-eq_default all [] b) ∙ is))
      ]))
      (λ t. numbers_same (piece (listed olds) k) (places e.vector) (nth ∙ ap (λ m. get_or all m []) (eqb-true k n t) ∙ here ∙ sym o.stands))

  pub listed_is : (free : List PiecePair) (i j : ℕ) (p q : Piece) (e f : Element) → IsOf olds i p e → IsOf olds j q f
      → are_free (listed olds) free e f ≡ is_listed free i j
  listed_is [] i j p q e f o u = refl
  listed_is (x ∷ xs) i j p q e f o u =
      ap₂ (λ a b. a || b)
      (ap₂ (λ a b. a || b)
      (ap₂ (λ a b. a && b) (number_test x.one i p e o) (number_test x.other j q f u))
      (ap₂ (λ a b. a && b) (number_test x.other i p e o) (number_test x.one j q f u)))
      (listed_is xs i j p q e f o u)

-- the same of the pieces of sides

module _ (olds : List Piece) (apart : AreApart olds) (sides : List Side) (pieces : map (λ s. s.piece.now) sides ≡ olds) (numbers : AreNumbered sides) where
  of_side : (s : Side) (e : Element) → In s sides → places e.vector ≡ places_of s.piece.now → IsOf olds s.number s.piece.now e
  of_side s e i v =
      let n = nth_of sides s s i in
      let is : s.number ≡ n.0 = ap (λ z. z.number) (sym n.1.1) ∙ numbers n.0 s n.1.0 in
      let long : n.0 < length (map (λ s. s.piece.now) sides) = subst (λ m. n.0 < m) (sym (length-map sides (λ s. s.piece.now))) n.1.0 in
      let few : n.0 < length olds = subst (λ z. n.0 < length z) pieces long in
      let there : get_or olds n.0 s.piece.now ≡ s.piece.now = ap (λ z. get_or z n.0 s.piece.now) (sym pieces) ∙ get_or-map (λ s. s.piece.now) sides n.0 s s.piece.now n.1.0 ∙ ap (λ z. z.piece.now) n.1.1 in
      record {
        below = subst (λ m. m < length olds) (sym is) few;
        is = subst (λ m. get_or olds m s.piece.now ≡ s.piece.now) (sym is) there;
        stands = v;
      }

  pub free_is : (free : List PiecePair) (s t : Side) (e f : Element) → In s sides → In t sides → places e.vector ≡ places_of s.piece.now → places f.vector ≡ places_of t.piece.now
      → are_free (listed olds) free e f ≡ is_listed free s.number t.number
  free_is free s t e f i j v w = listed_is olds apart free s.number t.number s.piece.now t.piece.now e f (of_side s e i v) (of_side t f j w)

-- Where a nest can be run, each subscript of an instance lies in its array.
use Rattle.std.proofs.Common.{◌≡◌, refl, sym, ap, subst, ℕ, zero, suc, ◌+◌, ◌*◌, ◌≤◌, ◌^◌, unsigned_abs, ℤ, pos, ◌≤ℤ◌, ◌<ℤ◌, Bool, true, false, not, ◌&&◌, int_lt, nat_eq, nat_le, List, [], ◌∷◌, ◌++◌, length, map, slice_get, inl, inr, arith}
use Rattle.std.specs.Bool.{IsTrue}
use Rattle.std.specs.List.{All, list_all}
use Rattle.std.proofs.lemmas.Bool.{and_parts, eqb-true, leb-true}
use Rattle.std.proofs.lemmas.Int.{ints}
use Rattle.std.proofs.lemmas.List.Elements.{All-nil, All-cons}
use Rattle.ch_affine.specs.Affine.{IsAtMost, value}
use Rattle.ch_nest.specs.Arrays.{cells_in, extents_of, total, within, within_array}
use Rattle.ch_nest.specs.Limits.{most_cells}
use Rattle.ch_nest.specs.LoopNest.{LoopNest}
use Rattle.ch_nest.specs.Run.{sub_value, modulo, subscripts}
use Rattle.ch_nest.specs.Shape.{access_fits, arrays_fit, form_fits, has_dimensions, is_array, is_nest, sub_fits}
use Rattle.ch_nest.specs.Sound.{items_inside}
use Rattle.ch_nest.specs.declared.nest.Access.{Access}
use Rattle.ch_nest.specs.declared.nest.Sub.{Sub}
use Rattle.ch_space.specs.Keeps.{IsReached, accesses}
use Rattle.ch_space.proofs.Bodies.{all_from_each, each_append, each_in, nest_arrays}
use Rattle.ch_timed.specs.Conflict.{cell_of, reads, written}
use Rattle.ch_timed.specs.Flat.{AllInside, IsInside, StaysInside}
use Rattle.ch_timed.specs.Members.{Each, In}
use Rattle.ch_timed.specs.Start.{start}
use Rattle.ch_timed.specs.Timed.{step}
use Rattle.ch_timed.specs.declared.element.Element.{Element}
use Rattle.ch_timed.proofs.Orders.{map_in}
use Rattle.ch_timed.proofs.Stays.{stays}

-- subscripts within extents are below the number of cells
record Inner (es : List ℕ) (subs : List ℤ) : Type 0 where
  some : 1 ≤ cells_in es
  each : Each (IsAtMost (cells_in es)) subs

product_covers : (e c : ℕ) (s : ℤ) → IsTrue (not (int_lt s (pos 0)) && int_lt s (pos e)) → 1 ≤ c → (1 ≤ e * c) × (IsAtMost (e * c) s × (c ≤ e * c))
product_covers e c s h l =
    let p = and_parts (not (int_lt s (pos 0))) (int_lt s (pos e)) h in
    let a : int_lt s (pos 0) ≡ false = negated (int_lt s (pos 0)) p.0 in
    let b : int_lt s (pos e) ≡ true = p.1 in
    let low : pos 0 ≤ℤ s = grind (arith, ints) in
    let high : s <ℤ pos e = grind (arith, ints) in
    let some : 1 ≤ e = omega (arith, ints) in
    let m : e ≤ e * c = grind arith in
    let n : c ≤ e * c = grind arith in
    (omega arith, (omega (arith, ints), n))
  where
    negated : (b : Bool) → IsTrue (not b) → b ≡ false
    negated true h = absurd cc
    negated false h = refl

each_weaker : (m n : ℕ) (xs : List ℤ) → m ≤ n → Each (IsAtMost m) xs → Each (IsAtMost n) xs
each_weaker m n [] l h = tt
each_weaker m n (x ∷ xs) l h = (let a = h.0 in omega arith, each_weaker m n xs l h.1)

within_inner : (es : List ℕ) (subs : List ℤ) → IsTrue (within es subs) → Inner es subs
within_inner [] [] h = record { some = omega arith; each = tt }
within_inner [] (s ∷ ss) h = absurd cc
within_inner (e ∷ es) [] h = absurd cc
within_inner (e ∷ es) (s ∷ ss) h =
    let p = and_parts (not (int_lt s (pos 0)) && int_lt s (pos e)) (within es ss) h in
    let r = within_inner es ss p.1 in
    let q = product_covers e (cells_in es) s p.0 r.some in
    record { some = q.0; each = (q.1.0, each_weaker (cells_in es) (e * cells_in es) ss q.1.1 r.each) }

array_inner : (extents : List (List ℕ)) (k : ℕ) (subs : List ℤ) → IsTrue (within_array extents k subs) → Each (IsAtMost (total extents)) subs
array_inner [] k subs h = absurd cc
array_inner (es ∷ ess) zero subs h = let r = within_inner es subs h in each_weaker (cells_in es) (cells_in es + total ess) subs (omega arith) r.each
array_inner (es ∷ ess) (suc k) subs h = each_weaker (total ess) (cells_in es + total ess) subs (omega arith) (array_inner ess k subs h)

subs_reach : (n most : ℕ) (iters : List ℤ) (ss : List Sub) → most ≤ 2 ^ 18 → IsTrue (list_all (sub_fits n) ss) → Each (IsAtMost most) (map (sub_value iters) ss) → All (IsReached iters) ss
subs_reach n most iters [] l fit h = All-nil (IsReached iters)
subs_reach n most iters (s ∷ ss) l fit h =
    let p = and_parts (sub_fits n s) (list_all (sub_fits n) ss) fit in
    let plain : s.modulus ≡ 0 = eqb-true s.modulus 0 (and_parts (form_fits n s.form) (nat_eq s.modulus 0) p.0).1 in
    let here : IsAtMost most (value s.form iters) = subst (λ m. IsAtMost most (modulo m (value s.form iters))) plain h.0 in
    All-cons (IsReached iters) s ss (omega arith) (subs_reach n most iters ss l p.1 h.1)

pub few_cells : (nest : LoopNest) → IsTrue (is_nest nest) → total (extents_of nest.arrays) ≤ most_cells
few_cells nest known =
    leb-true (total (extents_of nest.arrays)) most_cells (and_parts (list_all is_array nest.arrays) (nat_le (total (extents_of nest.arrays)) most_cells) (nest_arrays nest known)).1

access_reaches : (nest : LoopNest) (n : ℕ) (iters : List ℤ) (a : Access) → IsTrue (is_nest nest) → IsTrue (access_fits nest.arrays n a)
    → IsTrue (within_array (extents_of nest.arrays) (cell_of iters a).array (cell_of iters a).subs) → All (IsReached iters) a.subs
access_reaches nest n iters a known fit h =
    let few = few_cells nest known in
    subs_reach n (total (extents_of nest.arrays)) iters a.subs (omega arith) (and_parts (has_dimensions nest.arrays a.array (length a.subs)) (list_all (sub_fits n) a.subs) fit).1
    (array_inner (extents_of nest.arrays) a.array (subscripts a iters) h)

all_reach : (nest : LoopNest) (n : ℕ) (iters : List ℤ) (listed : List Access) → IsTrue (is_nest nest) → Each (λ a. IsTrue (access_fits nest.arrays n a)) listed
    → AllInside (extents_of nest.arrays) (map (cell_of iters) listed) → Each (λ a. All (IsReached iters) a.subs) listed
all_reach nest n iters [] known fit h = tt
all_reach nest n iters (a ∷ more) known fit h = (access_reaches nest n iters a known fit.0 h.0, all_reach nest n iters more known fit.1 h.1)

front : {X : Type 0} (P : X → Type 0) (xs ys : List X) → Each P (xs ++ ys) → Each P xs
front P [] ys h = tt
front P (x ∷ xs) ys h = (h.0, front P xs ys h.1)

back : {X : Type 0} (P : X → Type 0) (xs ys : List X) → Each P (xs ++ ys) → Each P ys
back P [] ys h = h
back P (x ∷ xs) ys h = back P xs ys h.1

-- the subscripts of an element of the list
pub element_reaches : (nest : LoopNest) (n : ℕ) (e : Element) → IsTrue (is_nest nest) → IsTrue (items_inside (extents_of nest.arrays) nest.items []) → In e (start nest)
    → Each (λ a. IsTrue (access_fits nest.arrays n a)) (accesses e.body) → All (λ a. All (IsReached e.identity.iters) a.subs) (accesses e.body)
element_reaches nest n e known inside i fit =
    let iters : List ℤ = e.identity.iters in
    let s = each_in (IsInside (extents_of nest.arrays)) (map step (start nest)) (step e) (stays nest inside) (map_in step (start nest) e i) in
    let rs = all_reach nest n iters (reads e.body.right) known (front (λ a. IsTrue (access_fits nest.arrays n a)) (reads e.body.right) (e.body.write ∷ []) fit) s.reads in
    let w = access_reaches nest n iters e.body.write known (back (λ a. IsTrue (access_fits nest.arrays n a)) (reads e.body.right) (e.body.write ∷ []) fit).0 s.writes in
    all_from_each (λ a. All (IsReached iters) a.subs) (accesses e.body)
    (each_append (λ a. All (IsReached iters) a.subs) (reads e.body.right) (e.body.write ∷ []) rs (w, tt))

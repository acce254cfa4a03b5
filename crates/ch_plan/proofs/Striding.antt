-- Places by strides.
use Rattle.std.proofs.Common.{◌≡◌, ap, ap₂, sym, ◌∙◌, refl, ℕ, zero, suc, ◌+◌, ◌-◌, ◌*◌, ◌<◌, ◌≤◌, ◌^◌, ℤ, pos, ◌+ℤ◌, ◌*ℤ◌, ◌≤ℤ◌, unsigned_abs, int_lt, not, ◌&&◌, true, false, Some, None, List, [], ◌∷◌, ◌++◌, get_or, drop, take, map, length, arith, w64, add-one, FitsSigned}
use Rattle.std.specs.Bool.{IsTrue}
use Rattle.std.specs.Int.{int_wrap}
use Rattle.std.specs.List.{slice_get}
use Rattle.std.proofs.Math.IntN.{pos-*ℤ-pos}
use Rattle.std.proofs.Math.Nat.{mul_assoc, mul_comm}
use Rattle.std.proofs.lemmas.Bool.{and_parts}
use Rattle.std.proofs.lemmas.Int.{ints, int_wrap-add_left, int_wrap-add_right, int_wrap-mul_left, int_wrap_fits, fits_signed_from_abs}
use Rattle.std.proofs.lemmas.List.{drop_more, drop_all, take_all}
use Rattle.ch_nest.specs.Arrays.{cells_in, place_in, row_major, total, within, within_array}
use Rattle.ch_nest.proofs.Distinct.{place_below}
use Rattle.ch_affine.proofs.Integers.{plus_times, times_assoc}
use Rattle.ch_plan.specs.declared.accesses.Placed.{Placed}
use Rattle.ch_plan.specs.Ready.{AreBases, extents_in, strided}

natural : (s : ℤ) (e : ℕ) → (not (int_lt s (pos 0)) && int_lt s (pos e)) ≡ true → pos (unsigned_abs s) ≡ s
natural s e h = grind (arith, ints)

pub row_major_is : (at : ℕ) (es : List ℕ) (ss : List ℤ) → IsTrue (within es ss) → pos (row_major at es ss) ≡ pos (at * cells_in es) +ℤ strided es ss
row_major_is at [] [] h = omega (arith, ints)
row_major_is at [] (s ∷ ss) h = absurd cc
row_major_is at (e ∷ es) [] h = absurd cc
row_major_is at (e ∷ es) (s ∷ ss) h =
    let p = and_parts (not (int_lt s (pos 0)) && int_lt s (pos e)) (within es ss) h in
    let u : ℕ = unsigned_abs s in
    let n : ℕ = cells_in es in
    let same : pos u ≡ s = natural s e p.0 in
    let more = row_major_is (at * e + u) es ss p.1 in
    let times : pos n *ℤ s ≡ pos (n * u) = ap (λ z. pos n *ℤ z) (sym same) ∙ pos-*ℤ-pos n u in
    omega (arith, ints, more, times, mul_assoc at e n, mul_comm u n)

pub place_is : (extents : List (List ℕ)) (k : ℕ) (es : List ℕ) (subs : List ℤ) → slice_get extents k ≡ Some es → IsTrue (within_array extents k subs)
    → pos (place_in extents k subs) ≡ pos (total (take k extents)) +ℤ strided es subs
place_is [] k es subs g h = absurd cc
place_is (x ∷ xs) zero es subs g h =
    let e : x ≡ es = cc in
    let w : IsTrue (within es subs) = rw e at h in
    rw e (omega (arith, ints, row_major_is 0 es subs w))
place_is (x ∷ xs) (suc k) es subs g h = omega (arith, ints, place_is xs k es subs g h)

pub placed_get : (placed : List Placed) (k : ℕ) (d : Placed) → k < length placed → slice_get (extents_in placed) k ≡ Some (get_or placed k d).extents
placed_get [] k d l = absurd (omega arith)
placed_get (p ∷ ps) zero d l = refl
placed_get (p ∷ ps) (suc k) d l = placed_get ps k d (omega arith)

-- the flat index, one subscript on

pub shorter : (es : List ℕ) → 1 ≤ length es → length (take (length es - 1) (drop 1 es)) < length es
shorter [] l = absurd (omega arith)
shorter (e ∷ es) l = omega (arith, ap length (take_all (length (e ∷ es) - 1) es (omega arith)))

pub none_strided : (d : ℤ) (es : List ℕ) (ss : List ℤ) → length es ≡ 0 → int_wrap w64 d ≡ int_wrap w64 (d +ℤ strided es ss)
none_strided d [] ss l = let e : d ≡ d +ℤ pos 0 = omega (arith, ints) in ap (int_wrap w64) e
none_strided d (e ∷ es) ss l = absurd (omega arith)

pub no_more_strided : (d : ℤ) (es : List ℕ) (ss : List ℤ) → length ss ≡ 0 → int_wrap w64 d ≡ int_wrap w64 (d +ℤ strided es ss)
no_more_strided d [] ss l = let e : d ≡ d +ℤ pos 0 = omega (arith, ints) in ap (int_wrap w64) e
no_more_strided d (e ∷ es) [] l = let e : d ≡ d +ℤ pos 0 = omega (arith, ints) in ap (int_wrap w64) e
no_more_strided d (e ∷ es) (s ∷ ss) l = absurd (omega arith)

pub strided_first : {X : Type 0} (f : X → ℤ) (es : List ℕ) (subs : List X) (s : X) → 1 ≤ length es → 1 ≤ length subs → s ≡ get_or subs 0 s
    → pos (cells_in (take (length es - 1) (drop 1 es))) *ℤ f s +ℤ strided (take (length es - 1) (drop 1 es)) (map f (take (length subs - 1) (drop 1 subs))) ≡ strided es (map f subs)
strided_first f [] subs s l m is = absurd (omega arith)
strided_first f (e ∷ es) [] s l m is = absurd (omega arith)
strided_first f (e ∷ es) (u ∷ us) s l m is =
    let a : take (length (e ∷ es) - 1) (drop 1 (e ∷ es)) ≡ es = take_all (length (e ∷ es) - 1) es (omega arith) in
    let b : take (length (u ∷ us) - 1) (drop 1 (u ∷ us)) ≡ us = take_all (length (u ∷ us) - 1) us (omega arith) in
    ap₂ (λ xs ys. pos (cells_in xs) *ℤ f s +ℤ strided xs (map f ys)) a b ∙ ap (λ x. pos (cells_in es) *ℤ f x +ℤ strided es (map f us)) is

-- what a sum comes to that is the place of a cell modulo 2^64
pub place_from : (extents : List (List ℕ)) (k : ℕ) (es : List ℕ) (subs : List ℤ) (base v : ℤ) → slice_get extents k ≡ Some es → IsTrue (within_array extents k subs)
    → total extents < 2 ^ 63 → base ≡ int_wrap w64 (pos (total (take k extents))) → v ≡ int_wrap w64 (base +ℤ strided es subs)
    → unsigned_abs v ≡ place_in extents k subs
place_from extents k es subs base v g h small b e =
    let p : ℕ = place_in extents k subs in
    let below : p < total extents = place_below extents k subs h in
    let sum : int_wrap w64 (base +ℤ strided es subs) ≡ int_wrap w64 (pos p) =
    ap (λ z. int_wrap w64 (z +ℤ strided es subs)) b ∙ int_wrap-add_left w64 (pos (total (take k extents))) (strided es subs) ∙ ap (int_wrap w64) (sym (place_is extents k es subs g h)) in
    let fits : int_wrap w64 (pos p) ≡ pos p = int_wrap_fits w64 (pos p) (fits_signed_from_abs w64 (pos p) (omega (arith, below, small))) in
    ap unsigned_abs (e ∙ sum ∙ fits)

-- the product of extents, one on
pub stride_on : (es : List ℕ) (k : ℕ) (now next whole : ℤ) → k < length es → next ≡ int_wrap w64 (now *ℤ pos (get_or es k 0))
    → int_wrap w64 (now *ℤ pos (cells_in (drop k es))) ≡ whole → int_wrap w64 (next *ℤ pos (cells_in (drop (k + 1) es))) ≡ whole
stride_on es k now next whole l n h =
    let e : ℕ = get_or es k 0 in
    let m : ℕ = cells_in (drop (k + 1) es) in
    let split : cells_in (drop k es) ≡ e * m = ap cells_in (drop_more es k 0 l) in
    let a : int_wrap w64 (next *ℤ pos m) ≡ int_wrap w64 ((now *ℤ pos e) *ℤ pos m) = ap (λ z. int_wrap w64 (z *ℤ pos m)) n ∙ int_wrap-mul_left w64 (now *ℤ pos e) (pos m) in
    let b : (now *ℤ pos e) *ℤ pos m ≡ now *ℤ pos (cells_in (drop k es)) = times_assoc now (pos e) (pos m) ∙ ap (λ z. now *ℤ z) (pos-*ℤ-pos e m ∙ ap pos (sym split)) in
    a ∙ ap (int_wrap w64) b ∙ h

pub stride_start : (es : List ℕ) → int_wrap w64 (pos (1 * cells_in es)) ≡ int_wrap w64 (pos (cells_in es))
stride_start es =
    let e : 1 * cells_in es ≡ cells_in es = omega arith in
    ap (λ (n : ℕ). int_wrap w64 (pos n)) e

pub stride_done : (es : List ℕ) (k : ℕ) (now : ℤ) → length es ≤ k → FitsSigned w64 now → int_wrap w64 (now *ℤ pos (cells_in (drop k es))) ≡ int_wrap w64 (pos (cells_in es))
    → now ≡ int_wrap w64 (pos (cells_in es))
stride_done es k now l fits h =
    let z : drop k es ≡ [] = drop_all k es l in
    let one : now *ℤ pos (cells_in (drop k es)) ≡ now = ap (λ us. now *ℤ pos (cells_in us)) z ∙ omega (arith, ints) in
    sym (ap (int_wrap w64) one ∙ int_wrap_fits w64 now fits) ∙ h

pub total_push : (ess : List (List ℕ)) (es : List ℕ) → total (ess ++ es ∷ []) ≡ total ess + cells_in es
total_push [] es = omega arith
total_push (x ∷ xs) es = omega (arith, total_push xs es)

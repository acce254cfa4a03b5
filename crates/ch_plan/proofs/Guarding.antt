-- A guard without hidden variables: its rows decide.
use Rattle.std.proofs.Common.{◌≡◌, refl, sym, ap, ap₂, ◌∙◌, subst, ℕ, ◌<◌, ◌≤◌, ℤ, pos, ◌≤ℤ◌, int_le, Bool, true, false, ◌&&◌, nat_le, List, [], ◌∷◌, length, take, map, arith}
use Rattle.std.specs.Bool.{IsTrue}
use Rattle.std.proofs.lemmas.Bool.{and_from, and_left, and_parts, and_right, le-leb, lt-leb}
use Rattle.std.proofs.lemmas.Int.{ints}
use Rattle.std.proofs.lemmas.List.{length-map, length-take-le, same_lists, get_or_default}
use Rattle.ch_affine.specs.Rows.{Rows, IsSystem, all_hold, holds, lies_in}
use Rattle.ch_affine.specs.declared.system.Range.{Range}
use Rattle.ch_nest.proofs.Corners.{lies_first, lies_length}
use Rattle.ch_poly.specs.Boxes.{Within, at}
use Rattle.ch_poly.specs.Fixed.{HasPoint}
use Rattle.ch_poly.specs.Points.{begins_some}
use Rattle.ch_poly.proofs.Firsts.{InBox, from_within, highs_of, holds_true, lows_of, to_within, true_holds}
use Rattle.ch_poly.proofs.Fixes.{has_point_is}
use Rattle.ch_plan.specs.Planned.{passes}

lies_true : (rs : List Range) (xs : List ℤ) → InBox rs xs → lies_in rs xs ≡ true
lies_true [] [] i = refl
lies_true [] (x ∷ xs) i = absurd i
lies_true (r ∷ rs) [] i = absurd i
lies_true (r ∷ rs) (x ∷ xs) i =
    let l : r.low ≤ℤ x = i.0 in
    let h : x ≤ℤ r.high = i.1 in
    let a : int_le r.low x ≡ true = grind (arith, ints) in
    let b : int_le x r.high ≡ true = grind (arith, ints) in
    rw (a, b) (lies_true rs xs i.2)

true_lies : (rs : List Range) (xs : List ℤ) → lies_in rs xs ≡ true → InBox rs xs
true_lies [] [] h = tt
true_lies [] (x ∷ xs) h = absurd cc
true_lies (r ∷ rs) [] h = absurd cc
true_lies (r ∷ rs) (x ∷ xs) h = let f = lies_first r rs x xs h in (f.low, f.high, true_lies rs xs f.others)

-- a point that begins with as many values as it has is these values
same_point : (p xs : List ℤ) → length p ≡ length xs → ((k : ℕ) → k < length xs → at p k ≡ at xs k) → p ≡ xs
same_point p xs e h =
    same_lists p xs e (λ k d l.
    let m : k < length xs = omega (arith, l, e) in
    get_or_default p k d (pos 0) l ∙ h k m ∙ get_or_default xs k (pos 0) d m)

found : (s : Rows) (xs : List ℤ) → holds s xs ≡ true → HasPoint s.rows xs (lows_of s.boxes) (highs_of s.boxes)
found s xs h =
    let p = and_parts (lies_in s.boxes xs) (all_hold s.rows xs) h in
    record { point = xs; within = to_within s.boxes xs (true_lies s.boxes xs p.0); holds = true_holds s.rows xs p.1; begins = record { each = λ k l. refl } }

not_found : (s : Rows) (xs : List ℤ) → length xs ≡ length s.boxes → holds s xs ≡ false → HasPoint s.rows xs (lows_of s.boxes) (highs_of s.boxes) → ⊥
not_found s xs e h p =
    let long : length p.point ≡ length xs = p.within.same ∙ length-map s.boxes (λ b. b.low) ∙ sym e in
    let same : p.point ≡ xs = same_point p.point xs long p.begins.each in
    let lies : lies_in s.boxes xs ≡ true = subst (λ z. lies_in s.boxes z ≡ true) same (lies_true s.boxes p.point (from_within s.boxes p.point p.within)) in
    let rows : all_hold s.rows xs ≡ true = subst (λ z. all_hold s.rows z ≡ true) same (holds_true s.rows p.point p.holds) in
    let both : holds s xs ≡ true = and_from _ _ lies rows in
    cc

pub holds_begins : (s : Rows) (xs : List ℤ) → IsSystem s → length xs ≡ s.vars → holds s xs ≡ begins_some s xs
holds_begins s xs i e =
    let long : length xs ≡ length s.boxes = omega (arith, e, i.boxes) in
    let few : length xs ≤ length (lows_of s.boxes) = rw (length-map s.boxes (λ b. b.low)) (omega (arith, long)) in
    has_point_is s xs (holds s xs) few (found s xs) (not_found s xs long)

-- what a guard says where there is room

roomy : (a b c d : Bool) → a ≡ true → b ≡ true → c ≡ true → d ≡ true → ((a && b) && (c && d)) ≡ true
roomy a b c d p q r s = and_from _ _ (and_from _ _ p q) (and_from _ _ r s)

pub passes_where : (vars rows : ℕ) (s : Rows) (around : ℕ) (point : List ℤ) (r : Bool) → around ≤ length point → around ≤ s.vars → s.vars ≤ vars → length s.rows ≤ rows
    → r ≡ begins_some s (take around point) → r ≡ passes vars rows s around point
passes_where vars rows s around point r a b c d h =
    let t = roomy _ _ _ _ (le-leb around (length point) a) (le-leb around s.vars b) (le-leb s.vars vars c) (le-leb (length s.rows) rows d) in
    rw t h

pub passes_rows : (vars rows : ℕ) (s : Rows) (around : ℕ) (point : List ℤ) (r : Bool) → IsSystem s → around ≤ length point → around ≡ s.vars → s.vars ≤ vars → length s.rows ≤ rows
    → r ≡ holds s (take around point) → r ≡ passes vars rows s around point
passes_rows vars rows s around point r i a b c d h =
    let e : length (take around point) ≡ s.vars = length-take-le around point a ∙ b in
    passes_where vars rows s around point r a (omega (arith, b)) c d (h ∙ holds_begins s (take around point) i e)

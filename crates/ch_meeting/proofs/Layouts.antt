-- The ranges of a query, one by one.
use Rattle.std.proofs.Common.{◌≡◌, refl, sym, ap, ◌∙◌, ℕ, zero, suc, ◌+◌, ◌^◌, ℤ, pos, List, [], ◌∷◌, ◌++◌, length, map, take, drop, arith, append_assoc}
use Rattle.std.specs.List.{All}
use Rattle.std.proofs.lemmas.Int.{ints}
use Rattle.std.proofs.lemmas.List.Elements.{All-nil, All-cons, All-append, All-take, All-drop, All-head, All-tail}
use Rattle.ch_affine.specs.Affine.{IsAtMost}
use Rattle.ch_affine.specs.Rows.{IsBox, IsSystem}
use Rattle.ch_affine.specs.declared.system.Range.{Range}
use Rattle.ch_nest.specs.declared.nest.Access.{Access}
use Rattle.ch_nest.specs.declared.nest.Sub.{Sub}
use Rattle.ch_poly.proofs.Firsts.{InBox}
use Rattle.ch_meeting.specs.Placed.{cell_boxes, only, pair_boxes, turn_range, wide, wides}
use Rattle.ch_space.specs.declared.piece.Piece.{Piece}

wides_more : (k : ℕ) → wides (k + 1) ≡ wides k ++ wide ∷ []
wides_more zero = refl
wides_more (suc k) = let e : suc k + 1 ≡ suc (k + 1) = omega arith in ap wides e ∙ ap (λ t. wide ∷ t) (wides_more k)

pub wide_more : (first now next : List Range) (k : ℕ) → now ≡ first ++ wides k → next ≡ now ++ wide ∷ [] → next ≡ first ++ wides (k + 1)
wide_more first now next k e n = n ∙ ap (λ t. t ++ wide ∷ []) e ∙ append_assoc first (wides k) (wide ∷ []) ∙ ap (λ t. first ++ t) (sym (wides_more k))

pub length_wides : (n : ℕ) → length (wides n) ≡ n
length_wides zero = refl
length_wides (suc n) = ap suc (length_wides n)

-- each range has a number and small ends

wide_box : IsBox wide
wide_box = record { low = omega (arith, ints); high = omega (arith, ints); some = omega (arith, ints) }

pub wides_boxes : (n : ℕ) → All IsBox (wides n)
wides_boxes zero = All-nil IsBox
wides_boxes (suc n) = All-cons IsBox wide (wides n) wide_box (wides_boxes n)

only_box : (x : ℤ) → IsAtMost (2 ^ 54) x → IsBox (only x)
only_box x h = record { low = h; high = h; some = omega (arith, ints) }

turn_box : (m : ℕ) → IsBox (turn_range m)
turn_box zero = only_box (pos 0) (omega arith)
turn_box (suc m) = wide_box

turns_boxes : (subs : List Sub) → All IsBox (map (λ s. turn_range s.modulus) subs)
turns_boxes [] = All-nil IsBox
turns_boxes (s ∷ subs) = All-cons IsBox (turn_range s.modulus) (map (λ s. turn_range s.modulus) subs) (turn_box s.modulus) (turns_boxes subs)

pub pair_each : (p q : Piece) → IsSystem p.system → IsSystem q.system → All IsBox (pair_boxes p q)
pair_each p q s t =
    All-append IsBox (take p.levels p.system.boxes) (take q.levels q.system.boxes ++ (drop p.levels p.system.boxes ++ drop q.levels q.system.boxes)) (All-take IsBox p.levels p.system.boxes s.each)
    (All-append IsBox (take q.levels q.system.boxes) (drop p.levels p.system.boxes ++ drop q.levels q.system.boxes) (All-take IsBox q.levels q.system.boxes t.each)
    (All-append IsBox (drop p.levels p.system.boxes) (drop q.levels q.system.boxes) (All-drop IsBox p.levels p.system.boxes s.each) (All-drop IsBox q.levels q.system.boxes t.each)))

pub cell_each : (n m : ℕ) (a b : Access) → All IsBox (cell_boxes n m a b)
cell_each n m a b =
    let ta : List Range = map (λ s. turn_range s.modulus) a.subs in
    let tb : List Range = map (λ s. turn_range s.modulus) b.subs in
    All-append IsBox (wides n) (wides m ++ (ta ++ (tb ++ only (pos 1) ∷ []))) (wides_boxes n)
    (All-append IsBox (wides m) (ta ++ (tb ++ only (pos 1) ∷ [])) (wides_boxes m)
    (All-append IsBox ta (tb ++ only (pos 1) ∷ []) (turns_boxes a.subs)
    (All-append IsBox tb (only (pos 1) ∷ []) (turns_boxes b.subs) (All-cons IsBox (only (pos 1)) [] (only_box (pos 1) (omega arith)) (All-nil IsBox)))))

-- numbers in wide ranges

pub near_inside : (n : ℕ) (xs : List ℤ) → length xs ≡ n → All (IsAtMost (2 ^ 54)) xs → InBox (wides n) xs
near_inside zero [] e h = tt
near_inside zero (x ∷ xs) e h = absurd (omega arith)
near_inside (suc n) [] e h = absurd (omega arith)
near_inside (suc n) (x ∷ xs) e h =
    let k = All-head (IsAtMost (2 ^ 54)) x xs h in
    (omega (arith, ints), omega (arith, ints), near_inside n xs (omega arith) (All-tail (IsAtMost (2 ^ 54)) x xs h))

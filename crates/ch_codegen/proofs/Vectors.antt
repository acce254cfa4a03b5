-- When one time vector comes before another: by a place, by the end of a piece, or by a turn of a loop.
use Rattle.std.proofs.Common.{◌≡◌, refl, sym, ap, ◌∙◌, subst, ℕ, suc, ◌<◌, ℤ, pos, ◌<ℤ◌, List, [], ◌∷◌, ◌++◌, map, length, take, get_or, arith}
use Rattle.std.proofs.lemmas.Int.{ints}
use Rattle.std.specs.Ordering.{int_cmp, ordering_then}
use Rattle.std.specs.declared.cmp.Ordering.TheVariants.{Less}
use Rattle.std.specs.Cmp.{tied_itself, int_cmp_total}
use Rattle.std.specs.Cmp.Lexicographic.{slice_cmp}
use Rattle.ch_timed.specs.Vectors.{woven}
use Rattle.ch_timed.proofs.Blocks.{int_less}

abbrev pub IsLess : List ℤ → List ℤ → Type 0
IsLess v w = slice_cmp int_cmp v w ≡ Less

pub same_head : (a : ℤ) (v w : List ℤ) → slice_cmp int_cmp (a ∷ v) (a ∷ w) ≡ slice_cmp int_cmp v w
same_head a v w = ap (λ o. ordering_then o (slice_cmp int_cmp v w)) (tied_itself int_cmp_total a)

less_head : (a b : ℤ) (v w : List ℤ) → a <ℤ b → IsLess (a ∷ v) (b ∷ w)
less_head a b v w h = ap (λ o. ordering_then o (slice_cmp int_cmp v w)) (int_less a b h)

woven_head : (a : ℤ) (ps xs : List ℤ) → (rest : List ℤ) × (woven (a ∷ ps) xs ≡ a ∷ rest)
woven_head a ps [] = ([], refl)
woven_head a ps (x ∷ xs) = (x ∷ woven ps xs, refl)

pub head_same : (a b : ℕ) (ps qs : List ℕ) → a ∷ ps ≡ b ∷ qs → a ≡ b
head_same a b ps qs e = cc

pub tail_same : (a b : ℕ) (ps qs : List ℕ) → a ∷ ps ≡ b ∷ qs → ps ≡ qs
tail_same a b ps qs e = cc

-- one step down two vectors that begin with the same place and the same value
same_step : (a b : ℕ) (x : ℤ) (v w : List ℤ) → a ≡ b → IsLess v w → IsLess (pos a ∷ x ∷ v) (pos b ∷ x ∷ w)
same_step a b x v w e h = subst (λ c. IsLess (pos a ∷ x ∷ v) (pos c ∷ x ∷ w)) e (same_head (pos a) (x ∷ v) (x ∷ w) ∙ same_head x v w ∙ h)

pub place_less : (ps qs : List ℕ) (xs ys zs : List ℤ) → take (length xs) ps ≡ take (length xs) qs → length xs < length ps → get_or ps (length xs) 0 < get_or qs (length xs) 0
    → IsLess (woven (map pos ps) (xs ++ ys)) (woven (map pos qs) (xs ++ zs))
place_less [] qs xs ys zs e l h = absurd (omega arith)
place_less (a ∷ ps) [] [] ys zs e l h = absurd (omega arith)
place_less (a ∷ ps) (b ∷ qs) [] ys zs e l h =
    let v = woven_head (pos a) (map pos ps) ys in
    let w = woven_head (pos b) (map pos qs) zs in
    rw (v.1, w.1) (less_head (pos a) (pos b) v.0 w.0 (omega (arith, ints, h)))
place_less (a ∷ ps) [] (x ∷ xs) ys zs e l h = cc
place_less (a ∷ ps) (b ∷ qs) (x ∷ xs) ys zs e l h =
    same_step a b x (woven (map pos ps) (xs ++ ys)) (woven (map pos qs) (xs ++ zs)) (head_same a b _ _ e)
    (place_less ps qs xs ys zs (tail_same a b _ _ e) (omega arith) h)

pub end_less : (ps qs : List ℕ) (xs ys zs : List ℤ) → take (length xs) ps ≡ take (length xs) qs → length ps ≡ suc (length xs) → length ys ≡ 0 → length qs ≡ suc (length (xs ++ zs))
    → IsLess (map pos ps) (map pos qs) → IsLess (woven (map pos ps) (xs ++ ys)) (woven (map pos qs) (xs ++ zs))
end_less ps qs xs (y ∷ ys) zs e l n m h = absurd (omega arith)
end_less [] qs xs [] zs e l n m h = absurd (omega arith)
end_less (a ∷ ps) [] xs [] zs e l n m h = absurd (omega arith)
end_less (a ∷ c ∷ ps) (b ∷ qs) [] [] zs e l n m h = absurd (omega arith)
end_less (a ∷ []) (b ∷ []) [] [] [] e l n m h = h
end_less (a ∷ []) (b ∷ d ∷ qs) [] [] [] e l n m h = absurd (omega arith)
end_less (a ∷ []) (b ∷ []) [] [] (z ∷ zs) e l n m h = absurd (omega arith)
end_less (a ∷ []) (b ∷ d ∷ qs) [] [] (z ∷ zs) e l n m h = h
end_less (a ∷ ps) (b ∷ qs) (x ∷ xs) [] zs e l n m h =
    let s = head_same a b _ _ e in
    same_step a b x (woven (map pos ps) (xs ++ [])) (woven (map pos qs) (xs ++ zs)) s
    (end_less ps qs xs [] zs (tail_same a b _ _ e) (omega arith) n (omega arith)
    (sym (same_head (pos a) (map pos ps) (map pos qs)) ∙ subst (λ c. IsLess (pos a ∷ map pos ps) (pos c ∷ map pos qs)) (sym s) h))

pub turn_less : (ps qs : List ℕ) (xs ys zs : List ℤ) (x y : ℤ) → take (suc (length xs)) ps ≡ take (suc (length xs)) qs → length xs < length ps → x <ℤ y
    → IsLess (woven (map pos ps) (xs ++ x ∷ ys)) (woven (map pos qs) (xs ++ y ∷ zs))
turn_less [] qs xs ys zs x y e l h = absurd (omega arith)
turn_less (a ∷ ps) [] xs ys zs x y e l h = cc
turn_less (a ∷ ps) (b ∷ qs) [] ys zs x y e l h =
    subst (λ c. IsLess (pos a ∷ x ∷ woven (map pos ps) ys) (pos c ∷ y ∷ woven (map pos qs) zs)) (head_same a b _ _ e)
    (same_head (pos a) (x ∷ woven (map pos ps) ys) (y ∷ woven (map pos qs) zs) ∙ less_head x y (woven (map pos ps) ys) (woven (map pos qs) zs) h)
turn_less (a ∷ ps) (b ∷ qs) (z ∷ xs) ys zs x y e l h =
    same_step a b z (woven (map pos ps) (xs ++ x ∷ ys)) (woven (map pos qs) (xs ++ y ∷ zs)) (head_same a b _ _ e)
    (turn_less ps qs xs ys zs x y (tail_same a b _ _ e) (omega arith) h)

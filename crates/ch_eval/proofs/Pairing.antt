-- Lists whose members at the same place belong together, one member on.
use Rattle.std.proofs.Common.{◌≡◌, ap, sym, ◌∙◌, subst, ℕ, ◌+◌, ◌<◌, List, [], ◌∷◌, ◌++◌, get_or, length, take}
use Rattle.std.proofs.lemmas.List.{take_more}
use Rattle.ch_eval.specs.Made.{Pairs}

pairs_push : {X Y : Type 0} (R : X → Y → Type 0) (xs : List X) (ys : List Y) (x : X) (y : Y) → R x y → Pairs R xs ys → Pairs R (xs ++ x ∷ []) (ys ++ y ∷ [])
pairs_push R [] [] x y r h = (r, tt)
pairs_push R [] (z ∷ ys) x y r h = absurd h
pairs_push R (z ∷ xs) [] x y r h = absurd h
pairs_push R (u ∷ xs) (v ∷ ys) x y r h = (h.0, pairs_push R xs ys x y r h.1)

pub pairs_more : {X Y : Type 0} (R : X → Y → Type 0) (xs : List X) (k : ℕ) (x : X) (ys new : List Y) (y : Y) → k < length xs → x ≡ get_or xs k x → R x y → new ≡ ys ++ y ∷ []
    → Pairs R (take k xs) ys → Pairs R (take (k + 1) xs) new
pairs_more R xs k x ys new y l is r n h =
    let front : take k xs ++ x ∷ [] ≡ take (k + 1) xs = ap (λ z. take k xs ++ z ∷ []) is ∙ sym (take_more xs k x l) in
    subst (λ zs. Pairs R zs new) front (subst (Pairs R (take k xs ++ x ∷ [])) (sym n) (pairs_push R (take k xs) ys x y r h))

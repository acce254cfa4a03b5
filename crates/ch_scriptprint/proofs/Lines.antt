-- One line more of a text.
use Rattle.std.proofs.Common.{◌≡◌, ℕ, ◌+◌, ◌<◌, List, [], ◌∷◌, ◌++◌, length, take, get_or, sym, ap, ◌∙◌, append_assoc, append-nil}
use Rattle.std.specs.List.{flat_map}
use Rattle.std.proofs.lemmas.Grind.{flat_map-append}
use Rattle.std.proofs.lemmas.List.{take_more}

pub one_more : {A : Type 0} (f : A → List ℕ) (xs : List A) (i : ℕ) (x : A) (start out new : List ℕ) → i < length xs → out ≡ start ++ flat_map f (take i xs) → x ≡ get_or xs i x → new ≡ out ++ f x
    → new ≡ start ++ flat_map f (take (i + 1) xs)
one_more f xs i x start out new l h e n =
    let more : take (i + 1) xs ≡ take i xs ++ x ∷ [] = take_more xs i x l ∙ ap (λ y. take i xs ++ y ∷ []) (sym e) in
    let texts : flat_map f (take (i + 1) xs) ≡ flat_map f (take i xs) ++ f x = ap (flat_map f) more ∙ flat_map-append f (take i xs) (x ∷ []) ∙ ap (λ (t : List ℕ). flat_map f (take i xs) ++ t) (append-nil (f x)) in
    n ∙ ap (λ (t : List ℕ). t ++ f x) h ∙ append_assoc start (flat_map f (take i xs)) (f x) ∙ ap (λ (t : List ℕ). start ++ t) (sym texts)

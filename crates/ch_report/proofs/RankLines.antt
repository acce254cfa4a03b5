-- The lines of the places of a simplex, one more at a time.
use Rattle.std.proofs.Common.{◌≡◌, ◌∙◌, sym, ap, ap₂, refl, ℕ, zero, suc, ◌+◌, Bool, true, Some, List, [], ◌∷◌, ◌++◌, map, option_map, take, add-one}
use Rattle.std.specs.Bool.{IsTrue}
use Rattle.std.specs.List.{list_all, slice_get}
use Rattle.std.proofs.lemmas.Bool.{and_from, and_parts}

next_taken : {A B C : Type 0} (g : A → B) (f : B → C) (xs : List A) (r : ℕ) (b : B) → Some b ≡ option_map g (slice_get xs r)
    → map (λ x. f (g x)) (take (suc r) xs) ≡ map (λ x. f (g x)) (take r xs) ++ f b ∷ []
next_taken g f [] r b h = absurd (cc h)
next_taken g f (x ∷ xs) zero b h = let e : b ≡ g x = cc h in ap (λ y. f y ∷ []) (sym e)
next_taken g f (x ∷ xs) (suc r) b h = ap (λ ys. f (g x) ∷ ys) (next_taken g f xs r b h)

pub next_line : {A B C : Type 0} (g : A → B) (f : B → C) (xs : List A) (r : ℕ) (b : B) (line : C) (lines next : List C) → Some b ≡ option_map g (slice_get xs r) → line ≡ f b
    → lines ≡ map (λ x. f (g x)) (take r xs) → next ≡ lines ++ line ∷ [] → next ≡ map (λ x. f (g x)) (take (r + 1) xs)
next_line g f xs r b line lines next h l i e =
    e ∙ ap₂ (λ ls y. ls ++ y ∷ []) i l ∙ sym (next_taken g f xs r b h) ∙ ap (λ n. map (λ x. f (g x)) (take n xs)) (sym (add-one r))

pub all_with : {A : Type 0} (p : A → Bool) (xs : List A) (x : A) → IsTrue (list_all p xs) → IsTrue (p x) → IsTrue (list_all p (xs ++ x ∷ []))
all_with p [] x h i = and_from (p x) true i refl
all_with p (y ∷ xs) x h i = let both = and_parts (p y) (list_all p xs) h in and_from (p y) (list_all p (xs ++ x ∷ [])) both.0 (all_with p xs x both.1 i)

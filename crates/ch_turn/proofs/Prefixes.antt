-- Histories that begin one another.
use Rattle.std.proofs.Common.{◌≡◌, ◌≤◌, Bool, true, false, ltb, cond, List, [], ◌∷◌, ◌++◌, length, sym, refl, ap, ◌∙◌, arith, append_assoc, append-nil}
use Rattle.std.proofs.lemmas.Bool.{ltb-true, ltb-false}
use Rattle.ch_turn.specs.History.{IsPrefix, longer, shorter}

-- of two beginnings of one list the shorter begins the longer
pub IsPrefix-of_two : {E : Type 0} (xs ys zs : List E) → IsPrefix xs zs → IsPrefix ys zs → length xs ≤ length ys → IsPrefix xs ys
IsPrefix-of_two [] ys zs a b le = (ys, refl)
IsPrefix-of_two (x ∷ xs) [] zs a b le = absurd (omega arith)
IsPrefix-of_two (x ∷ xs) (y ∷ ys) [] a b le = let e = a.1 in absurd (cc)
IsPrefix-of_two (x ∷ xs) (y ∷ ys) (z ∷ zs) a b le =
    let p : z ∷ zs ≡ x ∷ (xs ++ a.0) = a.1 in
    let q : z ∷ zs ≡ y ∷ (ys ++ b.0) = b.1 in
    let s : x ≡ y = cc in
    let r = IsPrefix-of_two xs ys zs (a.0, (cc)) (b.0, (cc)) (omega arith) in
    (r.0, λ i. sym s i ∷ r.1 i)

pub IsPrefix-longer_at : {E : Type 0} (xs ys zs : List E) → IsPrefix xs zs → IsPrefix ys zs → (t : Bool) → ltb (length xs) (length ys) ≡ t
    → IsPrefix (cond t ys xs) zs × IsPrefix (cond t xs ys) (cond t ys xs) × IsPrefix xs (cond t ys xs) × IsPrefix ys (cond t ys xs)
IsPrefix-longer_at xs ys zs a b true is = let lt = ltb-true (length xs) (length ys) is in let p = IsPrefix-of_two xs ys zs a b (omega arith) in (b, p, p, ([], sym (append-nil ys)))
IsPrefix-longer_at xs ys zs a b false is = let ge = ltb-false (length xs) (length ys) is in let p = IsPrefix-of_two ys xs zs b a (omega arith) in (a, p, ([], sym (append-nil xs)), p)

-- what holds of the longer and the shorter of two beginnings of one list
pub IsPrefix-longer : {E : Type 0} (xs ys zs : List E) → IsPrefix xs zs → IsPrefix ys zs
    → IsPrefix (longer xs ys) zs × IsPrefix (shorter xs ys) (longer xs ys) × IsPrefix xs (longer xs ys) × IsPrefix ys (longer xs ys)
IsPrefix-longer xs ys zs a b = IsPrefix-longer_at xs ys zs a b (ltb (length xs) (length ys)) refl

pub IsPrefix-append : {E : Type 0} → (xs ys more : List E) → IsPrefix xs ys → IsPrefix xs (ys ++ more)
IsPrefix-append xs ys more b = (b.0 ++ more, ap (λ l. l ++ more) b.1 ∙ append_assoc xs b.0 more)

both_at : {E : Type 0} (xs ys : List E) (t : Bool) → IsPrefix (cond t xs ys) (cond t ys xs) → IsPrefix xs (cond t ys xs) × IsPrefix ys (cond t ys xs)
both_at xs ys true b = (b, ([], sym (append-nil ys)))
both_at xs ys false b = (([], sym (append-nil xs)), b)

-- where the shorter begins the longer, both do
pub IsPrefix-both : {E : Type 0} (xs ys : List E) → IsPrefix (shorter xs ys) (longer xs ys) → IsPrefix xs (longer xs ys) × IsPrefix ys (longer xs ys)
IsPrefix-both xs ys b = both_at xs ys (ltb (length xs) (length ys)) b

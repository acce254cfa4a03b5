-- One call more runs its program once more on the client's arrays, and leaves the other programs' arrays as they are.
use Rattle.std.proofs.Common.{◌≡◌, ◌≢◌, ℕ, zero, suc, ◌+◌, Bool, true, false, cond, eqb, List, [], ◌∷◌, ◌++◌, refl, sym, ap, ◌∙◌, arith}
use Rattle.std.specs.Prelude.{ℤ}
use Rattle.std.proofs.lemmas.Bool.Decides.{nat_tests}
use Rattle.ch_conduct.specs.Lines.{times_in}
use Rattle.ch_conduct.specs.Fits.{run_times, cells_after}
use Rattle.ch_conduct.specs.Meaning.{Meaning}

times_more : (q : ℕ) (xs : List ℕ) (p : ℕ) → times_in q (xs ++ p ∷ []) ≡ cond (eqb q p) (suc (times_in q xs)) (times_in q xs)
times_more q [] p = refl
times_more q (x ∷ xs) p = at (eqb q x) (eqb q p) (times_more q xs p)
  where
    at : (a b : Bool) → times_in q (xs ++ p ∷ []) ≡ cond b (suc (times_in q xs)) (times_in q xs) → cond a (suc (times_in q (xs ++ p ∷ []))) (times_in q (xs ++ p ∷ [])) ≡ cond b (suc (cond a (suc (times_in q xs)) (times_in q xs))) (cond a (suc (times_in q xs)) (times_in q xs))
    at true true e = ap (λ n. suc n) e
    at true false e = ap (λ n. suc n) e
    at false true e = e
    at false false e = e

same_eqb : (x y : ℕ) → x ≡ y → eqb x y ≡ true
same_eqb x y e = grind (arith, nat_tests)

other_eqb : (x y : ℕ) → x ≢ y → eqb x y ≡ false
other_eqb x y n = grind (arith, nat_tests)

pub cells_of_call : (m : Meaning) (c : ℕ) (runs : List ℕ) (p : ℕ) → cells_after m c (runs ++ p ∷ []) p ≡ m.run p (cells_after m c runs p)
cells_of_call m c runs p = ap (λ n. run_times (m.run p) n (m.filled c p)) (times_more p runs p ∙ ap (λ (b : Bool). cond b (suc (times_in p runs)) (times_in p runs)) (same_eqb p p refl))

pub cells_of_others : (m : Meaning) (c : ℕ) (runs : List ℕ) (p q : ℕ) → q ≢ p → cells_after m c (runs ++ p ∷ []) q ≡ cells_after m c runs q
cells_of_others m c runs p q n = ap (λ k. run_times (m.run q) k (m.filled c q)) (times_more q runs p ∙ ap (λ (b : Bool). cond b (suc (times_in q runs)) (times_in q runs)) (other_eqb q p n))

-- One call more runs its program once more on the client's arrays, and leaves the other programs' arrays as they are.
use Rattle.std.proofs.Common.{◌≡◌, ◌≢◌, ℕ, zero, suc, ◌+◌, ◌<◌, Bool, true, false, cond, eqb, List, [], ◌∷◌, ◌++◌, length, map, get_or, set, refl, sym, ap, ◌∙◌, subst, get_or-set_same, get_or-set_other, length-set, arith}
use Rattle.std.specs.Prelude.{ℤ}
use Rattle.std.proofs.Common.{◌≤◌, Result, Ok, Err, OnErr}
use Rattle.std.proofs.lemmas.List.{map-append}
use Rattle.std.proofs.lemmas.Bool.Decides.{nat_tests}
use mathlib.Core.Logic.{dite}
use native.Mathlib.Decide.{ℕ_discrete}
use Rattle.ch_conduct.specs.Lines.{times_in}
use Rattle.ch_conduct.specs.Meaning.{Judge, Meaning, judge_of, program_of}
use Rattle.ch_conduct.specs.Fits.{run_times}
use Rattle.ch_client.specs.Arrays.{programs_of, HaveRun}

times_more : (q : ℕ) (xs : List ℕ) (p : ℕ) → times_in q (xs ++ p ∷ []) ≡ cond (eqb q p) (suc (times_in q xs)) (times_in q xs)
times_more q [] p = refl
times_more q (x ∷ xs) p = at (eqb q x) (eqb q p) (times_more q xs p)
  where
    at : (a b : Bool) → times_in q (xs ++ p ∷ []) ≡ cond b (suc (times_in q xs)) (times_in q xs) → cond a (suc (times_in q (xs ++ p ∷ []))) (times_in q (xs ++ p ∷ [])) ≡ cond b (suc (cond a (suc (times_in q xs)) (times_in q xs))) (cond a (suc (times_in q xs)) (times_in q xs))
    at true true e = ap (λ n. suc n) e
    at true false e = ap (λ n. suc n) e
    at false true e = e
    at false false e = e

same_eqb : (x : ℕ) → eqb x x ≡ true
same_eqb x = grind (arith, nat_tests)

other_eqb : (x y : ℕ) → x ≢ y → eqb x y ≡ false
other_eqb x y n = grind (arith, nat_tests)

pub have_run_more : (m : Meaning) (xs : List ℕ) (x : ℕ) (first arrays new : List (List ℤ)) → program_of m x < length first → new ≡ set arrays (program_of m x) (m.run (program_of m x) (get_or arrays (program_of m x) [])) → HaveRun m xs first arrays → HaveRun m (xs ++ x ∷ []) first new
have_run_more m xs x first arrays new low is t =
    subst (λ (v : List (List ℤ)). HaveRun m (xs ++ x ∷ []) first v) (sym is) (length-set arrays (program_of m x) next ∙ t.0, λ p under. dite (ℕ_discrete p (program_of m x)) (here p) (there p under))
  where
    next : List ℤ
    next = m.run (program_of m x) (get_or arrays (program_of m x) [])

    more : (p : ℕ) → times_in p (programs_of m (xs ++ x ∷ [])) ≡ cond (eqb p (program_of m x)) (suc (times_in p (programs_of m xs))) (times_in p (programs_of m xs))
    more p = ap (times_in p) (map-append (program_of m) xs (x ∷ [])) ∙ times_more p (programs_of m xs) (program_of m x)

    inside : program_of m x < length arrays
    inside = let e = t.0 in omega arith

    here : (p : ℕ) → p ≡ program_of m x → get_or (set arrays (program_of m x) next) p [] ≡ run_times (m.run p) (times_in p (programs_of m (xs ++ x ∷ []))) (get_or first p [])
    here p e = subst (λ (q : ℕ). get_or (set arrays (program_of m x) next) q [] ≡ run_times (m.run q) (times_in q (programs_of m (xs ++ x ∷ []))) (get_or first q [])) (sym e)
        (get_or-set_same arrays (program_of m x) next [] inside ∙ (ap (m.run (program_of m x)) (t.1 (program_of m x) low) ∙
        ap (λ (k : ℕ). run_times (m.run (program_of m x)) k (get_or first (program_of m x) [])) (sym (more (program_of m x) ∙ ap (λ (b : Bool). cond b (suc (times_in (program_of m x) (programs_of m xs))) (times_in (program_of m x) (programs_of m xs))) (same_eqb (program_of m x))))))

    there : (p : ℕ) → p < length first → p ≢ program_of m x → get_or (set arrays (program_of m x) next) p [] ≡ run_times (m.run p) (times_in p (programs_of m (xs ++ x ∷ []))) (get_or first p [])
    there p under ne = get_or-set_other arrays (program_of m x) p next [] ne ∙ (t.1 p under ∙
        ap (λ (k : ℕ). run_times (m.run p) k (get_or first p [])) (sym (more p ∙ ap (λ (b : Bool). cond b (suc (times_in p (programs_of m xs))) (times_in p (programs_of m xs))) (other_eqb p (program_of m x) ne))))

pub on_err : {T E : Type 0} (r : Result T E) (P : Type 0) → P → OnErr r P
on_err (Ok x) P p = tt
on_err (Err e) P p = p

-- The least outcome, and how many trials are above it.
use Rattle.std.proofs.Common.{◌≡◌, ℕ, zero, suc, ◌+◌, ◌*◌, ◌<◌, ◌≤◌, Bool, true, false, cond, nat_lt, ◌||◌, List, [], ◌∷◌, Option, Some, None, refl, sym, ap, ◌∙◌, subst, arith, ◌⊎◌, inl, inr}
use Rattle.std.proofs.lemmas.Bool.Decides.{nat_tests}
use Rattle.std.proofs.Math.Nat.{mul-le-mul_right}
use Rattle.ch_rank.specs.declared.outcome.Outcome.{Outcome}
use Rattle.ch_rank.specs.declared.outcome.Outcome.TheVariants.{Cost, Refused}
use Rattle.ch_rank.specs.declared.outcome.Costed.{Costed}
use Rattle.ch_rank.specs.Search.{Known, below, best_of, lowers}

lt_trans : (a b c : ℕ) → nat_lt a b ≡ true → nat_lt b c ≡ true → nat_lt a c ≡ true
lt_trans a b c p q = grind (arith, nat_tests)

pub below_trans : (a b c : Outcome) → below a b ≡ true → below b c ≡ true → below a c ≡ true
below_trans (Cost a) (Cost b) (Cost c) p q = lt_trans a b c p q
below_trans (Cost a) (Cost b) Refused p q = refl
below_trans (Cost a) Refused c p q = absurd (cc)
below_trans Refused b c p q = absurd (cc)

pub below_self : (a : Outcome) → below a a ≡ false
below_self (Cost a) = grind (arith, nat_tests)
below_self Refused = refl

-- ---- the best of a row that a point leads

no_case : (x y : Bool) → (x || y) ≡ false → (x ≡ false) × (y ≡ false)
no_case false y h = (refl, h)
no_case true y h = absurd (cc)

pub best_keeps : (b : Costed) (row : List Costed) → lowers b row ≡ false → best_of b row ≡ b
best_keeps b [] h = refl
best_keeps b (c ∷ cs) h =
    let n = no_case (below c.outcome b.outcome) (lowers b cs) h in
    ap (λ (t : Bool). best_of (cond t c b) cs) n.0 ∙ best_keeps b cs n.1

under_case : (t : Bool) (c b : Costed) (x : Outcome) → below b.outcome x ≡ true → below c.outcome b.outcome ≡ t → below (cond t c b).outcome x ≡ true
under_case true c b x h e = below_trans c.outcome b.outcome x e h
under_case false c b x h e = h

pub best_under : (b : Costed) (row : List Costed) (x : Outcome) → below b.outcome x ≡ true → below (best_of b row).outcome x ≡ true
best_under b [] x h = h
best_under b (c ∷ cs) x h = best_under (cond (below c.outcome b.outcome) c b) cs x (under_case (below c.outcome b.outcome) c b x h refl)

lower_case : (t : Bool) (b c : Costed) (cs : List Costed) → below c.outcome b.outcome ≡ t → (t || lowers b cs) ≡ true → (lowers b cs ≡ true → below (best_of b cs).outcome b.outcome ≡ true) → below (best_of (cond t c b) cs).outcome b.outcome ≡ true
lower_case true b c cs e h f = best_under c cs b.outcome e
lower_case false b c cs e h f = f h

-- a step whose row has a lower outcome lowers the least one
pub best_lower : (b : Costed) (row : List Costed) → lowers b row ≡ true → below (best_of b row).outcome b.outcome ≡ true
best_lower b [] h = absurd (cc)
best_lower b (c ∷ cs) h = lower_case (below c.outcome b.outcome) b c cs refl h (best_lower b cs)

-- ---- how many trials are above an outcome

abbrev pub is_above : Outcome → Option Outcome → Bool
is_above l None = false
is_above l (Some o) = below l o

abbrev pub one_if : Bool → ℕ
one_if true = 1
one_if false = 0

abbrev pub above : Known → Outcome → ℕ → ℕ
above k l zero = 0
above k l (suc n) = above k l n + one_if (is_above l (k n))

above_case : (l m : Outcome) (o : Option Outcome) → below m l ≡ true → one_if (is_above l o) ≤ one_if (is_above m o)
above_case l m None h = omega arith
above_case l m (Some o) h = test_case (below l o) (below m o) (λ e. below_trans m l o h e)
  where
    test_case : (a b : Bool) → (a ≡ true → b ≡ true) → one_if a ≤ one_if b
    test_case true true f = omega arith
    test_case true false f = absurd (let e = f refl in cc)
    test_case false true f = omega arith
    test_case false false f = omega arith

pub above_lower : (k : Known) (l m : Outcome) (n : ℕ) → below m l ≡ true → above k l n ≤ above k m n
above_lower k l m zero h = omega arith
above_lower k l m (suc n) h = let a = above_case l m (k n) h in let b = above_lower k l m n h in omega arith

one_most : (b : Bool) → one_if b ≤ 1
one_most true = omega arith
one_most false = omega arith

above_most : (k : Known) (l : Outcome) (n : ℕ) → above k l n ≤ n
above_most k l zero = omega arith
above_most k l (suc n) = let a = one_most (is_above l (k n)) in let b = above_most k l n in omega arith

here_not : (k : Known) (l : Outcome) (t : ℕ) → k t ≡ Some l → one_if (is_above l (k t)) ≡ 0
here_not k l t e = ap (λ o. one_if (is_above l o)) e ∙ ap one_if (below_self l)

here_is : (k : Known) (l m : Outcome) (t : ℕ) → k t ≡ Some l → below m l ≡ true → one_if (is_above m (k t)) ≡ 1
here_is k l m t e h = ap (λ o. one_if (is_above m o)) e ∙ ap one_if h

reach : (t n : ℕ) → t < suc n → (t ≡ n) ⊎ (t < n)
reach t n h = grind (arith, nat_tests)

-- the trial of an outcome is not above it
pub above_some : (k : Known) (l : Outcome) (t n : ℕ) → t < n → k t ≡ Some l → above k l n + 1 ≤ n
above_some k l t zero h e = absurd (omega arith)
above_some k l t (suc n) h e = at (reach t n h) (λ s. above_some k l t n s e)
  where
    at : (t ≡ n) ⊎ (t < n) → (t < n → above k l n + 1 ≤ n) → above k l (suc n) + 1 ≤ suc n
    at (inl s) f = let z = here_not k l n (subst (λ (u : ℕ). k u ≡ Some l) s e) in let m = above_most k l n in omega arith
    at (inr s) f = let r = f s in let m = one_most (is_above l (k n)) in omega arith

-- where the least outcome falls, its old trial is above the new one
pub above_falls : (k : Known) (l m : Outcome) (t n : ℕ) → t < n → k t ≡ Some l → below m l ≡ true → above k l n + 1 ≤ above k m n
above_falls k l m t zero h e b = absurd (omega arith)
above_falls k l m t (suc n) h e b = at (reach t n h) (λ s. above_falls k l m t n s e b)
  where
    at : (t ≡ n) ⊎ (t < n) → (t < n → above k l n + 1 ≤ above k m n) → above k l (suc n) + 1 ≤ above k m (suc n)
    at (inl s) rec =
        let f = subst (λ (u : ℕ). k u ≡ Some l) s e in
        let z = here_not k l n f in let o = here_is k l m n f b in let r = above_lower k l m n b in omega arith
    at (inr s) rec = let r = rec s in let c = above_case l m (k n) b in omega arith

pub above_more : (k : Known) (l : Outcome) (n m : ℕ) → n ≤ m → above k l n ≤ above k l m
above_more k l n zero h = let e : n ≡ 0 = omega arith in subst (λ (v : ℕ). above k l v ≤ above k l 0) (sym e) (omega arith)
above_more k l n (suc m) h = at (which n m h) (above_more k l n m)
  where
    which : (n m : ℕ) → n ≤ suc m → (n ≡ suc m) ⊎ (n ≤ m)
    which n m h = grind (arith, nat_tests)

    at : (n ≡ suc m) ⊎ (n ≤ m) → (n ≤ m → above k l n ≤ above k l m) → above k l n ≤ above k l (suc m)
    at (inl e) rec = subst (λ (v : ℕ). above k l v ≤ above k l (suc m)) (sym e) (omega arith)
    at (inr g) rec = let r = rec g in omega arith

-- ---- steps against the bound: j of the c halvings of this least outcome are spent

pub record Steps (k : Known) (l : Outcome) (n c j steps : ℕ) : Type 0 where
  pub few : j ≤ c
  pub steps_few : steps ≤ above k l n * (c + 1) + j

pub steps_start : (k : Known) (l : Outcome) (n c : ℕ) → Steps k l n c 0 0
steps_start k l n c = record { few = omega arith; steps_few = omega arith }

pub steps_shrink : (k : Known) (l : Outcome) (n m c j steps : ℕ) → Steps k l n c j steps → j < c → n ≤ m → Steps k l m c (j + 1) (steps + 1)
steps_shrink k l n m c j steps s h g =
    let a = above_more k l n m g in
    let p : above k l n * (c + 1) ≤ above k l m * (c + 1) = mul-le-mul_right (c + 1) a in
    record { few = omega arith; steps_few = omega (arith, s.steps_few) }

pub steps_lower : (k : Known) (l l' : Outcome) (t n m c j steps : ℕ) → Steps k l n c j steps → t < n → k t ≡ Some l → below l' l ≡ true → n ≤ m → Steps k l' m c 0 (steps + 1)
steps_lower k l l' t n m c j steps s h e b g =
    let a = above_falls k l l' t n h e b in
    let d = above_more k l' n m g in
    let p : (above k l n + 1) * (c + 1) ≤ above k l' m * (c + 1) = mul-le-mul_right (c + 1) (omega arith) in
    record { few = omega arith; steps_few = omega (arith, s.steps_few, s.few) }

-- so fewer steps than the bound
pub steps_below : (k : Known) (l : Outcome) (t n g c j steps : ℕ) → Steps k l n c j steps → t < n → k t ≡ Some l → n ≤ g → steps < g * (c + 1)
steps_below k l t n g c j steps s h e f =
    let a = above_some k l t n h e in
    let p : (above k l n + 1) * (c + 1) ≤ g * (c + 1) = mul-le-mul_right (c + 1) (omega arith) in
    omega (arith, s.steps_few, s.few)

pub steps_more : (k : Known) (l : Outcome) (n m c j steps : ℕ) → Steps k l n c j steps → n ≤ m → Steps k l m c j steps
steps_more k l n m c j steps s g =
    let a = above_more k l n m g in
    let p : above k l n * (c + 1) ≤ above k l m * (c + 1) = mul-le-mul_right (c + 1) a in
    record { few = s.few; steps_few = omega (arith, s.steps_few) }

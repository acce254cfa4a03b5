-- Each trial that a legal history names has a point there.
use Rattle.std.proofs.Common.{◌≡◌, ℕ, zero, suc, ◌+◌, ◌<◌, ◌≤◌, Bool, true, false, cond, eqb, ◌&&◌, ◌||◌, not, List, [], ◌∷◌, ◌++◌, Option, Some, None, refl, sym, subst, arith, append_assoc, append-nil, ◌⊎◌, inl, inr}
use Rattle.std.specs.List.{list_any}
use Rattle.ch_session.specs.declared.event.Event.{Event}
use Rattle.ch_session.specs.declared.event.Event.TheVariants.{Fetch, Report, Claim, Good, Refused, Leave}
use Rattle.ch_session.specs.History.{Theme, trials, least, or_else, same_option, first_trial, holds, is_free, is_open, is_held_by, is_claimed_by, names_claim_by, names_end, fetch_gives, claim_gives, left_after, may_follow, is_legal}
use Rattle.ch_session.specs.Laws.{NamesBelow, AllBelow}
use Rattle.ch_session.proofs.Events.{both}
use Rattle.ch_session.proofs.KeptLeases.{holds_true}
use Rattle.ch_session.proofs.Legal.{equal_of, or_cases, same_some, held_parts, legal_front, legal_last, points_keep}

least_below : (q : ℕ → Bool) (n t i : ℕ) → least q n t ≡ Some i → i < t + n
least_below q zero t i e = absurd (cc)
least_below q (suc n) t i e = at (q t) e (least_below q n (suc t) i)
  where
    at : (b : Bool) → cond b (Some t) (least q n (suc t)) ≡ Some i → (least q n (suc t) ≡ Some i → i < suc t + n) → i < t + suc n
    at true e f = let z : t ≡ i = cc in omega (arith, z)
    at false e f = let r = f e in omega (arith, r)

-- the first trial that passes a test has a point
pub first_below : (th : Theme) (h : List Event) (p : ℕ → Bool) (u : ℕ) → first_trial th h p ≡ Some u → u < trials th h
first_below th h p u e = let r = least_below p (trials th h) 0 u e in omega (arith, r)

-- and so has the one that a fetch gives
pub fetched_below : (th : Theme) (h : List Event) (c t : ℕ) → fetch_gives th h c ≡ Some t → t < trials th h
fetched_below th h c t e = at (holds th h c) refl e
  where
    at : (o : Option ℕ) → holds th h c ≡ o → or_else o (first_trial th h (is_free th h)) ≡ Some t → t < trials th h
    at (Some u) q f = let z : u ≡ t = cc in let r = (holds_true th h c u q).1 in omega (arith, r, z)
    at None q f = first_below th h (is_free th h) t f

claim_below : (n : ℕ) (h : List Event) (b t : ℕ) → AllBelow n h → list_any (names_claim_by b t) h ≡ true → t < n
claim_below n [] b t a e = absurd (cc)
claim_below n (x ∷ h) b t a e = at x a.0 (or_cases (names_claim_by b t x) (list_any (names_claim_by b t) h) e) (claim_below n h b t a.1)
  where
    one : (y : Event) → NamesBelow n y → names_claim_by b t y ≡ true → t < n
    one (Claim d u) p k = subst (λ (v : ℕ). v < n) (equal_of u t (both (eqb u t) (eqb d b) k).0) p
    one (Fetch c o v) p k = absurd (cc)
    one (Report c u j z l) p k = absurd (cc)
    one (Good d u) p k = absurd (cc)
    one (Refused d u r) p k = absurd (cc)
    one (Leave c u) p k = absurd (cc)

    at : (y : Event) → NamesBelow n y → (names_claim_by b t y ≡ true) ⊎ (list_any (names_claim_by b t) h ≡ true) → (list_any (names_claim_by b t) h ≡ true → t < n) → t < n
    at y p (inl k) f = one y p k
    at y p (inr k) f = f k

names_now : (th : Theme) (h : List Event) (e : Event) → AllBelow (trials th h) h → may_follow th h e ≡ true → NamesBelow (trials th h) e
names_now th h (Fetch c None v) a m = tt
names_now th h (Fetch c (Some u) v) a m = fetched_below th h c u (same_some u (fetch_gives th h c) (both (same_option (Some u) (fetch_gives th h c)) (eqb v 0) m).0)
names_now th h (Report c u j x l) a m = (held_parts th h c u (both (is_held_by th h c u) (eqb l (left_after th h u)) m).0).here
names_now th h (Claim b u) a m = first_below th h (is_open th h) u (same_some u (claim_gives th h) m)
names_now th h (Good b u) a m = claim_below (trials th h) h b u a (both (list_any (names_claim_by b u) h) (not (list_any (names_end u) h)) m).0
names_now th h (Refused b u r) a m = claim_below (trials th h) h b u a (both (list_any (names_claim_by b u) h) (not (list_any (names_end u) h)) m).0
names_now th h (Leave c u) a m = (held_parts th h c u m).here

names_grow : (n m : ℕ) (e : Event) → n ≤ m → NamesBelow n e → NamesBelow m e
names_grow n m (Fetch c None v) l b = tt
names_grow n m (Fetch c (Some u) v) l b = omega (arith, l, b)
names_grow n m (Report c u j x k) l b = omega (arith, l, b)
names_grow n m (Claim c u) l b = omega (arith, l, b)
names_grow n m (Good c u) l b = omega (arith, l, b)
names_grow n m (Refused c u r) l b = omega (arith, l, b)
names_grow n m (Leave c u) l b = omega (arith, l, b)

all_grow : (n m : ℕ) (h : List Event) → n ≤ m → AllBelow n h → AllBelow m h
all_grow n m [] l a = tt
all_grow n m (e ∷ h) l a = (names_grow n m e l a.0, all_grow n m h l a.1)

below_more : (n : ℕ) (h : List Event) (e : Event) → AllBelow n h → NamesBelow n e → AllBelow n (h ++ e ∷ [])
below_more n [] e a b = (b, tt)
below_more n (x ∷ h) e a b = (a.0, below_more n h e a.1 b)

among : (th : Theme) (before more : List Event) → is_legal th (before ++ more) ≡ true → AllBelow (trials th before) before → AllBelow (trials th (before ++ more)) (before ++ more)
among th before [] l a = subst (λ (v : List Event). AllBelow (trials th v) v) (sym (append-nil before)) a
among th before (e ∷ more) l a =
    let next : List Event = before ++ e ∷ [] in
    let later : is_legal th (next ++ more) ≡ true = subst (λ (v : List Event). is_legal th v ≡ true) (sym (append_assoc before (e ∷ []) more)) l in
    let here = legal_front th next more later in
    let k = (points_keep th before (e ∷ []) here).long in
    let m = names_now th before e a (legal_last th before e here) in
    subst (λ (v : List Event). AllBelow (trials th v) v) (append_assoc before (e ∷ []) more)
    (among th next more later (below_more (trials th next) before e (all_grow (trials th before) (trials th next) before k a) (names_grow (trials th before) (trials th next) e k m)))

pub all_among : (th : Theme) (h : List Event) → is_legal th h ≡ true → AllBelow (trials th h) h
all_among th h l = among th [] h l tt

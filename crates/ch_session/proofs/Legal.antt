-- Laws of legal histories.
use Rattle.std.proofs.Common.{◌≡◌, ◌≢◌, ℕ, zero, suc, ◌+◌, ◌-◌, ◌<◌, ◌≤◌, Bool, true, false, cond, eqb, nat_lt, ◌&&◌, ◌||◌, not, List, [], ◌∷◌, ◌++◌, length, Option, Some, None, is_some, refl, sym, ap, ◌∙◌, subst, arith, ◌⊎◌, inl, inr, append_assoc, append-nil}
use Rattle.std.specs.Prelude.{filter}
use Rattle.std.specs.List.{list_any}
use Rattle.std.proofs.lemmas.Bool.Decides.{nat_tests}
use Rattle.ch_grid.specs.Grid.{sizes}
use Rattle.ch_grid.specs.Points.{count}
use Rattle.ch_rank.proofs.Ending.{trials_few}
use Rattle.ch_rank.specs.declared.outcome.Outcome.{Outcome}
use Rattle.ch_rank.specs.declared.outcome.Outcome.TheVariants.{Cost}
use Rattle.ch_rank.specs.declared.outcome.Costed.{Costed}
use Rattle.ch_rank.specs.Search.{search_on}
use Rattle.ch_rank.specs.Entries.{known, measured, outcome_from, may_enter, are_legal_after}
use Rattle.ch_rank.specs.Growth.{Keeps}
use Rattle.ch_rank.proofs.Growing.{points_grow, entries_grow}
use Rattle.ch_session.specs.declared.event.Event.{Event}
use Rattle.ch_session.specs.declared.event.Event.TheVariants.{Fetch, Report, Claim, Good, Refused, Leave}
use Rattle.ch_session.specs.History.{top, Theme, entry_of, entries, game, trials, names_claim, names_claim_by, names_good, names_end, holder_after, holder_from, is_client, is_pending, is_open, is_claimed_by, is_built, is_held_by, is_free, holds, or_else, same_option, fetch_gives, claim_gives, first_trial, left_after, least, may_follow, follow, is_legal}
use Rattle.ch_session.specs.Growth.{by, seat_of}
use Rattle.ch_session.specs.Laws.{ClaimedOnce, OneClaimant, NoneBy, NamesBelow, AllBelow}
use Rattle.ch_rank.proofs.Legal.{legal_parts}
use Rattle.ch_session.proofs.Events.{or_false, any_more, entries_more, measured_append, holder_more, both, same_true, differ, which}

-- ---- what each event keeps, a legal history keeps

pub along : (P : List Event → Type 0) (th : Theme) → ((h : List Event) (e : Event) → P h → may_follow th h e ≡ true → P (h ++ e ∷ [])) → (before more : List Event) → P before → follow th before more ≡ true → P (before ++ more)
along P th step before [] p f = subst P (sym (append-nil before)) p
along P th step before (e ∷ more) p f =
    let b = both (may_follow th before e) (follow th (before ++ e ∷ []) more) f in
    subst P (append_assoc before (e ∷ []) more) (along P th step (before ++ e ∷ []) more (step before e p b.0) b.1)

pub equal_of : (x y : ℕ) → eqb x y ≡ true → x ≡ y
equal_of x y h = grind (arith, nat_tests)

pub or_cases : (a b : Bool) → (a || b) ≡ true → (a ≡ true) ⊎ (b ≡ true)
or_cases true b h = inl refl
or_cases false b h = inr h

pub not_both : (b : Bool) → b ≡ true → b ≡ false → ⊥
not_both b p q = cc

pub least_true : (q : ℕ → Bool) (n t i : ℕ) → least q n t ≡ Some i → q i ≡ true
least_true q zero t i e = absurd (cc)
least_true q (suc n) t i e = at (q t) refl e (least_true q n (suc t) i)
  where
    at : (b : Bool) → q t ≡ b → cond b (Some t) (least q n (suc t)) ≡ Some i → (least q n (suc t) ≡ Some i → q i ≡ true) → q i ≡ true
    at true k e f = let z : t ≡ i = cc in subst (λ (u : ℕ). q u ≡ true) z k
    at false k e f = f e

pub same_some : (t : ℕ) (o : Option ℕ) → same_option (Some t) o ≡ true → o ≡ Some t
same_some t None e = absurd (cc)
same_some t (Some u) e = ap (λ (n : ℕ). Some n) (sym (equal_of t u e))

pub not_true : (b : Bool) → not b ≡ true → b ≡ false
not_true true e = absurd (cc)
not_true false e = refl

-- ---- no trial is claimed twice

pub claim_open : (th : Theme) (h : List Event) (t : ℕ) → same_option (Some t) (claim_gives th h) ≡ true → list_any (names_claim t) h ≡ false
claim_open th h t e =
    let o = least_true (is_open th h) (trials th h) 0 t (same_some t (claim_gives th h) e) in
    not_true (list_any (names_claim t) h) (both (is_pending th h t) (not (list_any (names_claim t) h)) o).1

claims_case : (b : Bool) (e : Event) (h : List Event) (t : ℕ) (n : ℕ) → length (filter (names_claim t) h) ≤ n → length (cond b (e ∷ filter (names_claim t) h) (filter (names_claim t) h)) ≤ n + cond b 1 0
claims_case true e h t n i = omega arith
claims_case false e h t n i = omega arith

none_filter : (q : Event → Bool) (h : List Event) → list_any q h ≡ false → filter q h ≡ []
none_filter q [] e = refl
none_filter q (x ∷ h) e = at (q x) e (none_filter q h)
  where
    at : (b : Bool) → (b || list_any q h) ≡ false → (list_any q h ≡ false → filter q h ≡ []) → cond b (x ∷ filter q h) (filter q h) ≡ []
    at true e f = absurd (cc)
    at false e f = f e

filter_append : (q : Event → Bool) (h : List Event) (e : Event) → filter q (h ++ e ∷ []) ≡ filter q h ++ cond (q e) (e ∷ []) []
filter_append q [] e = refl
filter_append q (x ∷ h) e = at (q x) (filter_append q h e)
  where
    at : (b : Bool) → filter q (h ++ e ∷ []) ≡ filter q h ++ cond (q e) (e ∷ []) [] → cond b (x ∷ filter q (h ++ e ∷ [])) (filter q (h ++ e ∷ [])) ≡ cond b (x ∷ filter q h) (filter q h) ++ cond (q e) (e ∷ []) []
    at true i = ap (λ (v : List Event). x ∷ v) i
    at false i = i

quiet_claim : (h : List Event) (e : Event) (t : ℕ) → names_claim t e ≡ false → length (filter (names_claim t) h) ≤ 1 → length (filter (names_claim t) (h ++ e ∷ [])) ≤ 1
quiet_claim h e t q p = subst (λ (v : List Event). length v ≤ 1) (sym (filter_append (names_claim t) h e ∙ (ap (λ (b : Bool). filter (names_claim t) h ++ cond b (e ∷ []) []) q ∙ append-nil (filter (names_claim t) h)))) p

once_step : (th : Theme) (h : List Event) (e : Event) → ClaimedOnce h → may_follow th h e ≡ true → ClaimedOnce (h ++ e ∷ [])
once_step th h (Fetch c o v) p m t = quiet_claim h (Fetch c o v) t refl (p t)
once_step th h (Report c u j x l) p m t = quiet_claim h (Report c u j x l) t refl (p t)
once_step th h (Good b u) p m t = quiet_claim h (Good b u) t refl (p t)
once_step th h (Refused b u r) p m t = quiet_claim h (Refused b u r) t refl (p t)
once_step th h (Leave c u) p m t = quiet_claim h (Leave c u) t refl (p t)
once_step th h (Claim b u) p m t = at (which u t)
  where
    at : (u ≡ t) ⊎ (u ≢ t) → length (filter (names_claim t) (h ++ Claim b u ∷ [])) ≤ 1
    at (inl z) =
        let none : filter (names_claim t) h ≡ [] = subst (λ (v : ℕ). filter (names_claim v) h ≡ []) z (none_filter (names_claim u) h (claim_open th h u m)) in
        subst (λ (v : List Event). length v ≤ 1) (sym (filter_append (names_claim t) h (Claim b u) ∙ ap (λ (v : List Event). v ++ cond (eqb u t) (Claim b u ∷ []) []) none)) (one (eqb u t))
      where
        one : (q : Bool) → length (cond q (Claim b u ∷ []) []) ≤ 1
        one true = omega arith
        one false = omega arith
    at (inr n) = quiet_claim h (Claim b u) t (differ u t n) (p t)

pub claimed_once : (th : Theme) (h : List Event) → is_legal th h ≡ true → ClaimedOnce h
claimed_once th h l = along ClaimedOnce th (once_step th) [] h (λ t. omega arith) (both (follow th [] h) (are_legal_after th.grid th.repeat [] (entries h)) l).0

pub by_claim : (h : List Event) (a t : ℕ) → list_any (names_claim_by a t) h ≡ true → list_any (names_claim t) h ≡ true
by_claim [] a t e = absurd (cc)
by_claim (x ∷ h) a t e = at x (or_cases (names_claim_by a t x) (list_any (names_claim_by a t) h) e) (by_claim h a t)
  where
    left_true : (p q : Bool) → p ≡ true → (p || q) ≡ true
    left_true true q h = refl
    left_true false q h = absurd (cc)

    right_true : (p q : Bool) → q ≡ true → (p || q) ≡ true
    right_true true q h = refl
    right_true false q h = h

    one : (y : Event) → names_claim_by a t y ≡ true → names_claim t y ≡ true
    one (Claim b u) k = (both (eqb u t) (eqb b a) k).0
    one (Fetch c o v) k = absurd (cc)
    one (Report c u j z l) k = absurd (cc)
    one (Good b u) k = absurd (cc)
    one (Refused b u r) k = absurd (cc)
    one (Leave c u) k = absurd (cc)

    at : (y : Event) → (names_claim_by a t y ≡ true) ⊎ (list_any (names_claim_by a t) h ≡ true) → (list_any (names_claim_by a t) h ≡ true → list_any (names_claim t) h ≡ true) → (names_claim t y || list_any (names_claim t) h) ≡ true
    at y (inl k) f = left_true (names_claim t y) (list_any (names_claim t) h) (one y k)
    at y (inr k) f = right_true (names_claim t y) (list_any (names_claim t) h) (f k)

quiet_by : (h : List Event) (e : Event) (a t : ℕ) → names_claim_by a t e ≡ false → list_any (names_claim_by a t) (h ++ e ∷ []) ≡ true → list_any (names_claim_by a t) h ≡ true
quiet_by h e a t q p = sym (any_more (names_claim_by a t) h e ∙ (ap (λ (b : Bool). list_any (names_claim_by a t) h || b) q ∙ or_false (list_any (names_claim_by a t) h))) ∙ p

claimant_step : (th : Theme) (h : List Event) (e : Event) → OneClaimant h → may_follow th h e ≡ true → OneClaimant (h ++ e ∷ [])
claimant_step th h (Fetch c o v) p m t a b x y = p t a b (quiet_by h (Fetch c o v) a t refl x) (quiet_by h (Fetch c o v) b t refl y)
claimant_step th h (Report c u j z l) p m t a b x y = p t a b (quiet_by h (Report c u j z l) a t refl x) (quiet_by h (Report c u j z l) b t refl y)
claimant_step th h (Good d u) p m t a b x y = p t a b (quiet_by h (Good d u) a t refl x) (quiet_by h (Good d u) b t refl y)
claimant_step th h (Refused d u r) p m t a b x y = p t a b (quiet_by h (Refused d u r) a t refl x) (quiet_by h (Refused d u r) b t refl y)
claimant_step th h (Leave c u) p m t a b x y = p t a b (quiet_by h (Leave c u) a t refl x) (quiet_by h (Leave c u) b t refl y)
claimant_step th h (Claim d u) p m t a b x y = at (split a x) (split b y)
  where
    split : (c : ℕ) → list_any (names_claim_by c t) (h ++ Claim d u ∷ []) ≡ true → (list_any (names_claim_by c t) h ≡ true) ⊎ ((u ≡ t) × (d ≡ c))
    split c k = turn (or_cases (list_any (names_claim_by c t) h) (eqb u t && eqb d c) (sym (any_more (names_claim_by c t) h (Claim d u)) ∙ k))
      where
        turn : (list_any (names_claim_by c t) h ≡ true) ⊎ ((eqb u t && eqb d c) ≡ true) → (list_any (names_claim_by c t) h ≡ true) ⊎ ((u ≡ t) × (d ≡ c))
        turn (inl k) = inl k
        turn (inr k) = let w = both (eqb u t) (eqb d c) k in inr (equal_of u t w.0, equal_of d c w.1)

    fresh : (c : ℕ) → u ≡ t → list_any (names_claim_by c t) h ≡ true → ⊥
    fresh c z k = not_both (list_any (names_claim t) h) (by_claim h c t k) (subst (λ (v : ℕ). list_any (names_claim v) h ≡ false) z (claim_open th h u m))

    at : (list_any (names_claim_by a t) h ≡ true) ⊎ ((u ≡ t) × (d ≡ a)) → (list_any (names_claim_by b t) h ≡ true) ⊎ ((u ≡ t) × (d ≡ b)) → a ≡ b
    at (inl v) (inl w) = p t a b v w
    at (inl v) (inr w) = absurd (fresh a w.0 v)
    at (inr v) (inl w) = absurd (fresh b v.0 w)
    at (inr v) (inr w) = sym v.1 ∙ w.1

pub one_claimant : (th : Theme) (h : List Event) → is_legal th h ≡ true → OneClaimant h
one_claimant th h l = along OneClaimant th (claimant_step th) [] h (λ t a b x y. absurd (cc)) (both (follow th [] h) (are_legal_after th.grid th.repeat [] (entries h)) l).0

-- ---- histories that go on

pub follow_front : (th : Theme) (before xs ys : List Event) → follow th before (xs ++ ys) ≡ true → (follow th before xs ≡ true) × (follow th (before ++ xs) ys ≡ true)
follow_front th before [] ys f = (refl, subst (λ (v : List Event). follow th v ys ≡ true) (sym (append-nil before)) f)
follow_front th before (x ∷ xs) ys f =
    let b = both (may_follow th before x) (follow th (before ++ x ∷ []) (xs ++ ys)) f in
    let r = follow_front th (before ++ x ∷ []) xs ys b.1 in
    (ap (λ (v : Bool). v && follow th (before ++ x ∷ []) xs) b.0 ∙ r.0, subst (λ (v : List Event). follow th v ys ≡ true) (append_assoc before (x ∷ []) xs) r.1)

pub entries_append : (xs ys : List Event) → entries (xs ++ ys) ≡ entries xs ++ entries ys
entries_append [] ys = refl
entries_append (x ∷ xs) ys = ap (λ (v : List Costed). entry_of x ++ v) (entries_append xs ys) ∙ sym (append_assoc (entry_of x) (entries xs) (entries ys))

and_true : (a b : Bool) → a ≡ true → b ≡ true → (a && b) ≡ true
and_true true b p q = q
and_true false b p q = absurd (cc)

-- the beginning of a legal history is legal
pub legal_front : (th : Theme) (xs ys : List Event) → is_legal th (xs ++ ys) ≡ true → is_legal th xs ≡ true
legal_front th xs ys l =
    let b = both (follow th [] (xs ++ ys)) (are_legal_after th.grid th.repeat [] (entries (xs ++ ys))) l in
    and_true (follow th [] xs) (are_legal_after th.grid th.repeat [] (entries xs)) (follow_front th [] xs ys b.0).0
    (legal_parts th.grid th.repeat [] (entries xs) (entries ys) (subst (λ (v : List Costed). are_legal_after th.grid th.repeat [] v ≡ true) (entries_append xs ys) b.1)).0

pub legal_last : (th : Theme) (h : List Event) (e : Event) → is_legal th (h ++ e ∷ []) ≡ true → may_follow th h e ≡ true
legal_last th h e l = let b = both (follow th [] (h ++ e ∷ [])) (are_legal_after th.grid th.repeat [] (entries (h ++ e ∷ []))) l in (both (may_follow th h e) true (follow_front th [] h (e ∷ []) b.0).1).0

-- in a legal history that goes on, a trial keeps its number and its point
pub points_keep : (th : Theme) (xs ys : List Event) → is_legal th (xs ++ ys) ≡ true → Keeps (game th xs).points (game th (xs ++ ys)).points
points_keep th xs ys l =
    let b = both (follow th [] (xs ++ ys)) (are_legal_after th.grid th.repeat [] (entries (xs ++ ys))) l in
    let e : entries (xs ++ ys) ≡ entries xs ++ entries ys = entries_append xs ys in
    let m = legal_parts th.grid th.repeat [] (entries xs) (entries ys) (subst (λ (v : List Costed). are_legal_after th.grid th.repeat [] v ≡ true) e b.1) in
    let k = points_grow (sizes th.grid) (known th.repeat (entries xs)) (known th.repeat (entries xs ++ entries ys)) (entries_grow th.grid th.repeat (entries xs) (entries ys) m.1) in
    subst (λ (v : List Costed). Keeps (game th xs).points (search_on (sizes th.grid) (known th.repeat v)).points) (sym e) k

-- ---- a trial stays held until its own client acts

pub record Held (th : Theme) (h : List Event) (c t : ℕ) : Type 0 where
  pub good : list_any (names_good t) h ≡ true
  pub here : t < trials th h
  pub none : known th.repeat (entries h) t ≡ None
  pub holder : holder_from t None h ≡ Some c

pub held_parts : (th : Theme) (h : List Event) (c t : ℕ) → is_held_by th h c t ≡ true → Held th h c t
held_parts th h c t e =
    let a = both (is_built th h t) (is_client c (holder_from t None h)) e in
    let b = both (list_any (names_good t) h) (is_pending th h t) a.0 in
    let d = both (nat_lt t (trials th h)) (not (is_some (known th.repeat (entries h) t))) b.1 in
    record { good = b.0; here = less_of t (trials th h) d.0; none = none_of (known th.repeat (entries h) t) d.1; holder = client_of (holder_from t None h) a.1 }
  where
    less_of : (x y : ℕ) → nat_lt x y ≡ true → x < y
    less_of x y h = grind (arith, nat_tests)

    none_of : (o : Option Outcome) → not (is_some o) ≡ true → o ≡ None
    none_of None q = refl
    none_of (Some o) q = absurd (cc)

    client_of : (o : Option ℕ) → is_client c o ≡ true → o ≡ Some c
    client_of None q = absurd (cc)
    client_of (Some d) q = ap (λ (n : ℕ). Some n) (equal_of d c q)

pub held_whole : (th : Theme) (h : List Event) (c t : ℕ) → Held th h c t → is_held_by th h c t ≡ true
held_whole th h c t k = all (list_any (names_good t) h) (nat_lt t (trials th h)) (known th.repeat (entries h) t) (holder_from t None h) k.good (less t (trials th h) k.here) k.none k.holder
  where
    less : (x y : ℕ) → x < y → nat_lt x y ≡ true
    less x y h = grind (arith, nat_tests)

    all : (a b : Bool) (o : Option Outcome) (q : Option ℕ) → a ≡ true → b ≡ true → o ≡ None → q ≡ Some c → ((a && (b && not (is_some o))) && is_client c q) ≡ true
    all true true None q x y z w = ap (is_client c) w ∙ same_true c
    all true true (Some o) q x y z w = absurd (cc)
    all true false o q x y z w = absurd (cc)
    all false b o q x y z w = absurd (cc)

-- an event that makes no entry of the trial and doesn't change its holder
pub held_keep : (th : Theme) (h : List Event) (e : Event) (c t : ℕ) → is_legal th (h ++ e ∷ []) ≡ true → Held th h c t → measured (entry_of e) t ≡ [] → holder_after t (Some c) e ≡ Some c → Held th (h ++ e ∷ []) c t
held_keep th h e c t l k m o = record {
  good = any_more (names_good t) h e ∙ ap (λ (b : Bool). b || names_good t e) k.good;
  here = let p = points_keep th h (e ∷ []) l in omega (arith, k.here, p.long);
  none = ap (λ (es : List Costed). known th.repeat es t) (entries_more h e) ∙ (ap (λ (os : List Outcome). outcome_from th.repeat os) (measured_append (entries h) (entry_of e) t ∙ (ap (λ (os : List Outcome). measured (entries h) t ++ os) m ∙ append-nil (measured (entries h) t))) ∙ k.none);
  holder = holder_more t None h e ∙ (ap (λ (q : Option ℕ). holder_after t q e) k.holder ∙ o);
}

pub good_end : (h : List Event) (t : ℕ) → list_any (names_good t) h ≡ true → list_any (names_end t) h ≡ true
good_end [] t e = absurd (cc)
good_end (x ∷ h) t e = at x (or_cases (names_good t x) (list_any (names_good t) h) e) (good_end h t)
  where
    left_true : (p q : Bool) → p ≡ true → (p || q) ≡ true
    left_true true q h = refl
    left_true false q h = absurd (cc)

    right_true : (p q : Bool) → q ≡ true → (p || q) ≡ true
    right_true true q h = refl
    right_true false q h = h

    one : (y : Event) → names_good t y ≡ true → names_end t y ≡ true
    one (Good b u) k = k
    one (Claim b u) k = absurd (cc)
    one (Fetch c o v) k = absurd (cc)
    one (Report c u j z l) k = absurd (cc)
    one (Refused b u r) k = absurd (cc)
    one (Leave c u) k = absurd (cc)

    at : (y : Event) → (names_good t y ≡ true) ⊎ (list_any (names_good t) h ≡ true) → (list_any (names_good t) h ≡ true → list_any (names_end t) h ≡ true) → (names_end t y || list_any (names_end t) h) ≡ true
    at y (inl k) f = left_true (names_end t y) (list_any (names_end t) h) (one y k)
    at y (inr k) f = right_true (names_end t y) (list_any (names_end t) h) (f k)

other_holder : (th : Theme) (h : List Event) (c d t : ℕ) → Held th h c t → is_held_by th h d t ≡ true → d ≡ c
other_holder th h c d t k e = let m = held_parts th h d t e in some_same d c (sym m.holder ∙ k.holder)
  where
    some_same : (a b : ℕ) → Some a ≡ Some b → a ≡ b
    some_same a b q = cc

not_fetched : (th : Theme) (h : List Event) (c d t : ℕ) → Held th h c t → d ≢ c → fetch_gives th h d ≡ Some t → ⊥
not_fetched th h c d t k n e = at (holds th h d) refl e
  where
    at : (o : Option ℕ) → holds th h d ≡ o → or_else o (first_trial th h (is_free th h)) ≡ Some t → ⊥
    at (Some u) q f = let z : u ≡ t = cc in n (other_holder th h c d t k (subst (λ (v : ℕ). is_held_by th h d v ≡ true) z (least_true (is_held_by th h d) (trials th h) 0 u q)))
    at None q f =
        let r = least_true (is_free th h) (trials th h) 0 t f in
        let s = both (is_built th h t) (not (is_some (holder_from t None h))) r in
        not_both (is_some (holder_from t None h)) (ap (λ (o : Option ℕ). is_some o) k.holder) (not_true (is_some (holder_from t None h)) s.1)

held_step : (th : Theme) (h : List Event) (e : Event) (c t : ℕ) → is_legal th (h ++ e ∷ []) ≡ true → by e ≢ c → Held th h c t → Held th (h ++ e ∷ []) c t
held_step th h (Fetch d None v) c t l n k = held_keep th h (Fetch d None v) c t l k refl refl
held_step th h (Fetch d (Some u) v) c t l n k = at (which u t)
  where
    at : (u ≡ t) ⊎ (u ≢ t) → Held th (h ++ Fetch d (Some u) v ∷ []) c t
    at (inl z) = absurd (not_fetched th h c d t k n (subst (λ (w : ℕ). fetch_gives th h d ≡ Some w) z (same_some u (fetch_gives th h d) (both (same_option (Some u) (fetch_gives th h d)) (eqb v 0) (legal_last th h (Fetch d (Some u) v) l)).0)))
    at (inr q) = held_keep th h (Fetch d (Some u) v) c t l k refl (ap (λ (b : Bool). cond b (Some d) (Some c)) (differ u t q))
held_step th h (Report d u j x f) c t l n k = at (which u t)
  where
    at : (u ≡ t) ⊎ (u ≢ t) → Held th (h ++ Report d u j x f ∷ []) c t
    at (inl z) = absurd (n (other_holder th h c d t k (subst (λ (w : ℕ). is_held_by th h d w ≡ true) z (both (is_held_by th h d u) (eqb f (Rattle.ch_session.specs.History.left_after th h u)) (legal_last th h (Report d u j x f) l)).0)))
    at (inr q) = held_keep th h (Report d u j x f) c t l k (ap (λ (b : Bool). cond b (Cost x ∷ []) []) (differ u t q)) (ap (λ (b : Bool). cond b None (Some c)) (differ u t q))
held_step th h (Claim b u) c t l n k = held_keep th h (Claim b u) c t l k refl refl
held_step th h (Good b u) c t l n k = held_keep th h (Good b u) c t l k refl refl
held_step th h (Refused b u r) c t l n k = at (which u t)
  where
    at : (u ≡ t) ⊎ (u ≢ t) → Held th (h ++ Refused b u r ∷ []) c t
    at (inl z) =
        let m = both (list_any (names_claim_by b u) h) (not (list_any (names_end u) h)) (legal_last th h (Refused b u r) l) in
        absurd (not_both (list_any (names_end t) h) (good_end h t k.good) (subst (λ (w : ℕ). list_any (names_end w) h ≡ false) z (not_true (list_any (names_end u) h) m.1)))
    at (inr q) = held_keep th h (Refused b u r) c t l k (ap (λ (b : Bool). cond b (top ∷ []) []) (differ u t q)) refl
held_step th h (Leave d u) c t l n k = at (which u t)
  where
    at : (u ≡ t) ⊎ (u ≢ t) → Held th (h ++ Leave d u ∷ []) c t
    at (inl z) = absurd (n (other_holder th h c d t k (subst (λ (w : ℕ). is_held_by th h d w ≡ true) z (legal_last th h (Leave d u) l))))
    at (inr q) = held_keep th h (Leave d u) c t l k refl (ap (λ (b : Bool). cond b None (Some c)) (differ u t q))

held_along : (th : Theme) (h more : List Event) (c t : ℕ) → is_legal th (h ++ more) ≡ true → NoneBy c more → Held th h c t → Held th (h ++ more) c t
held_along th h [] c t l n k = subst (λ (v : List Event). Held th v c t) (sym (append-nil h)) k
held_along th h (e ∷ more) c t l n k =
    let a : is_legal th ((h ++ e ∷ []) ++ more) ≡ true = subst (λ (v : List Event). is_legal th v ≡ true) (sym (append_assoc h (e ∷ []) more)) l in
    subst (λ (v : List Event). Held th v c t) (append_assoc h (e ∷ []) more) (held_along th (h ++ e ∷ []) more c t a n.1 (held_step th h e c t (legal_front th (h ++ e ∷ []) more a) n.0 k))

-- a trial that a client holds stays held by it until an event of its own
pub stays_held : (th : Theme) (h more : List Event) (c t : ℕ) → is_legal th (h ++ more) ≡ true → NoneBy c more → is_held_by th h c t ≡ true → is_held_by th (h ++ more) c t ≡ true
stays_held th h more c t l n e = held_whole th (h ++ more) c t (held_along th h more c t l n (held_parts th h c t e))

-- ---- a trial stays claimed until its own builder acts

record Open (h : List Event) (b t : ℕ) : Type 0 where
  claimed : list_any (names_claim_by b t) h ≡ true
  no_end : list_any (names_end t) h ≡ false

open_parts : (th : Theme) (h : List Event) (b t : ℕ) → is_claimed_by th h b t ≡ true → Open h b t
open_parts th h b t e = let a = both (list_any (names_claim_by b t) h) (not (list_any (names_end t) h)) e in record { claimed = a.0; no_end = not_true (list_any (names_end t) h) a.1 }

open_keep : (h : List Event) (e : Event) (b t : ℕ) → Open h b t → names_end t e ≡ false → Open (h ++ e ∷ []) b t
open_keep h e b t k n = record {
  claimed = any_more (names_claim_by b t) h e ∙ ap (λ (x : Bool). x || names_claim_by b t e) k.claimed;
  no_end = any_more (names_end t) h e ∙ (ap (λ (x : Bool). x || names_end t e) k.no_end ∙ n);
}

open_other : (th : Theme) (h : List Event) (b d u t : ℕ) → OneClaimant h → Open h b t → is_claimed_by th h d u ≡ true → seat_of d ≢ seat_of b → u ≢ t
open_other th h b d u t one k m n z =
    let a = open_parts th h d u m in
    let same : d ≡ b = one t d b (subst (λ (v : ℕ). list_any (names_claim_by d v) h ≡ true) z a.claimed) k.claimed in
    n (ap seat_of same)

open_step : (th : Theme) (h : List Event) (e : Event) (b t : ℕ) → OneClaimant h → may_follow th h e ≡ true → by e ≢ seat_of b → Open h b t → Open (h ++ e ∷ []) b t
open_step th h (Fetch c o v) b t one m n k = open_keep h (Fetch c o v) b t k refl
open_step th h (Report c u j x l) b t one m n k = open_keep h (Report c u j x l) b t k refl
open_step th h (Claim d u) b t one m n k = open_keep h (Claim d u) b t k refl
open_step th h (Good d u) b t one m n k = open_keep h (Good d u) b t k (differ u t (open_other th h b d u t one k m n))
open_step th h (Refused d u r) b t one m n k = open_keep h (Refused d u r) b t k (differ u t (open_other th h b d u t one k m n))
open_step th h (Leave c u) b t one m n k = open_keep h (Leave c u) b t k refl

open_along : (th : Theme) (h more : List Event) (b t : ℕ) → is_legal th (h ++ more) ≡ true → NoneBy (seat_of b) more → Open h b t → Open (h ++ more) b t
open_along th h [] b t l n k = subst (λ (v : List Event). Open v b t) (sym (append-nil h)) k
open_along th h (e ∷ more) b t l n k =
    let a : is_legal th ((h ++ e ∷ []) ++ more) ≡ true = subst (λ (v : List Event). is_legal th v ≡ true) (sym (append_assoc h (e ∷ []) more)) l in
    let s = legal_front th (h ++ e ∷ []) more a in
    subst (λ (v : List Event). Open v b t) (append_assoc h (e ∷ []) more) (open_along th (h ++ e ∷ []) more b t a n.1 (open_step th h e b t (one_claimant th h (legal_front th h (e ∷ []) s)) (legal_last th h e s) n.0 k))

pub stays_claimed : (th : Theme) (h more : List Event) (b t : ℕ) → is_legal th (h ++ more) ≡ true → NoneBy (seat_of b) more → is_claimed_by th h b t ≡ true → is_claimed_by th (h ++ more) b t ≡ true
stays_claimed th h more b t l n e =
    let k = open_along th h more b t l n (open_parts th h b t e) in
    and_true (list_any (names_claim_by b t) (h ++ more)) (not (list_any (names_end t) (h ++ more))) k.claimed (ap (λ (x : Bool). not x) k.no_end)

-- what came to a history has none of a seat's events where the seat's own list didn't grow
pub none_more : (n : ℕ) (more : List Event) → filter (λ e. eqb (by e) n) more ≡ [] → NoneBy n more
none_more n [] e = tt
none_more n (x ∷ more) e = at (eqb (by x) n) refl e (none_more n more)
  where
    at : (b : Bool) → eqb (by x) n ≡ b → cond b (x ∷ filter (λ e. eqb (by e) n) more) (filter (λ e. eqb (by e) n) more) ≡ [] → (filter (λ e. eqb (by e) n) more ≡ [] → NoneBy n more) → (by x ≢ n) × NoneBy n more
    at true q e f = absurd (cc)
    at false q e f = (λ z. not_both (eqb (by x) n) (ap (λ (v : ℕ). eqb v n) z ∙ same_true n) q, f e)

pub filter_both : (q : Event → Bool) (xs ys : List Event) → filter q (xs ++ ys) ≡ filter q xs ++ filter q ys
filter_both q [] ys = refl
filter_both q (x ∷ xs) ys = at (q x) (filter_both q xs ys)
  where
    at : (b : Bool) → filter q (xs ++ ys) ≡ filter q xs ++ filter q ys → cond b (x ∷ filter q (xs ++ ys)) (filter q (xs ++ ys)) ≡ cond b (x ∷ filter q xs) (filter q xs) ++ filter q ys
    at true i = ap (λ (v : List Event). x ∷ v) i
    at false i = i

nothing_added : (a b c : List Event) → c ≡ a ++ b → c ≡ a → b ≡ []
nothing_added [] b c e f = sym e ∙ f
nothing_added (x ∷ a) b [] e f = absurd (cc)
nothing_added (x ∷ a) b (y ∷ c) e f = nothing_added a b c (tail_of y x c (a ++ b) e) (tail_of y x c a f)
  where
    tail_of : (y x : Event) (c d : List Event) → y ∷ c ≡ x ∷ d → c ≡ d
    tail_of y x c d e = cc

pub none_by : (n : ℕ) (xs more : List Event) → filter (λ e. eqb (by e) n) (xs ++ more) ≡ filter (λ e. eqb (by e) n) xs → NoneBy n more
none_by n xs more e = none_more n more (nothing_added (filter (λ e. eqb (by e) n) xs) (filter (λ e. eqb (by e) n) more) (filter (λ e. eqb (by e) n) (xs ++ more)) (filter_both (λ e. eqb (by e) n) xs more) e)

-- ---- trial numbers are below the number of the grid's points

below_more : (n : ℕ) (h : List Event) (e : Event) → AllBelow n h → NamesBelow n e → AllBelow n (h ++ e ∷ [])
below_more n [] e a b = (b, tt)
below_more n (x ∷ h) e a b = (a.0, below_more n h e a.1 b)

least_below : (q : ℕ → Bool) (n t i : ℕ) → least q n t ≡ Some i → i < t + n
least_below q zero t i e = absurd (cc)
least_below q (suc n) t i e = at (q t) e (least_below q n (suc t) i)
  where
    at : (b : Bool) → cond b (Some t) (least q n (suc t)) ≡ Some i → (least q n (suc t) ≡ Some i → i < suc t + n) → i < t + suc n
    at true e f = let z : t ≡ i = cc in omega (arith, z)
    at false e f = let r = f e in omega (arith, r)

gives_below : (th : Theme) (h : List Event) (c t : ℕ) → fetch_gives th h c ≡ Some t → t < trials th h
gives_below th h c t e = at (holds th h c) refl e
  where
    at : (o : Option ℕ) → holds th h c ≡ o → or_else o (first_trial th h (is_free th h)) ≡ Some t → t < trials th h
    at (Some u) q f = let z : u ≡ t = cc in let r = least_below (is_held_by th h c) (trials th h) 0 u q in omega (arith, r, z)
    at None q f = let r = least_below (is_free th h) (trials th h) 0 t f in omega (arith, r)

claim_below : (n : ℕ) (h : List Event) (b t : ℕ) → AllBelow n h → list_any (names_claim_by b t) h ≡ true → t < n
claim_below n [] b t a e = absurd (cc)
claim_below n (x ∷ h) b t a e = at x a.0 (or_cases (names_claim_by b t x) (list_any (names_claim_by b t) h) e) (claim_below n h b t a.1)
  where
    one : (y : Event) → NamesBelow n y → names_claim_by b t y ≡ true → t < n
    one (Claim d u) p k = subst (λ (v : ℕ). v < n) (equal_of u t (both (eqb u t) (eqb d b) k).0) p
    one (Fetch c o v) p k = absurd (cc)
    one (Report c u j z l) p k = absurd (cc)
    one (Good d u) p k = absurd (cc)
    one (Refused d u r) p k = absurd (cc)
    one (Leave c u) p k = absurd (cc)

    at : (y : Event) → NamesBelow n y → (names_claim_by b t y ≡ true) ⊎ (list_any (names_claim_by b t) h ≡ true) → (list_any (names_claim_by b t) h ≡ true → t < n) → t < n
    at y p (inl k) f = one y p k
    at y p (inr k) f = f k

within : (th : Theme) (h : List Event) (t : ℕ) → t < trials th h → t < count (sizes th.grid)
within th h t l = let f = trials_few th.grid (known th.repeat (entries h)) in omega (arith, l, f)

below_step : (th : Theme) (h : List Event) (e : Event) → AllBelow (count (sizes th.grid)) h → may_follow th h e ≡ true → AllBelow (count (sizes th.grid)) (h ++ e ∷ [])
below_step th h (Fetch c None v) a m = below_more (count (sizes th.grid)) h (Fetch c None v) a tt
below_step th h (Fetch c (Some u) v) a m = below_more (count (sizes th.grid)) h (Fetch c (Some u) v) a (within th h u (gives_below th h c u (same_some u (fetch_gives th h c) (both (same_option (Some u) (fetch_gives th h c)) (eqb v 0) m).0)))
below_step th h (Report c u j x l) a m = below_more (count (sizes th.grid)) h (Report c u j x l) a (let k = held_parts th h c u (both (is_held_by th h c u) (eqb l (left_after th h u)) m).0 in within th h u k.here)
below_step th h (Claim b u) a m = below_more (count (sizes th.grid)) h (Claim b u) a (let r = least_below (is_open th h) (trials th h) 0 u (same_some u (claim_gives th h) m) in within th h u (omega (arith, r)))
below_step th h (Good b u) a m = below_more (count (sizes th.grid)) h (Good b u) a (let k = open_parts th h b u m in claim_below (count (sizes th.grid)) h b u a k.claimed)
below_step th h (Refused b u r) a m = below_more (count (sizes th.grid)) h (Refused b u r) a (let k = open_parts th h b u m in claim_below (count (sizes th.grid)) h b u a k.claimed)
below_step th h (Leave c u) a m = below_more (count (sizes th.grid)) h (Leave c u) a (let k = held_parts th h c u m in within th h u k.here)

pub trials_below : (th : Theme) (h : List Event) → is_legal th h ≡ true → AllBelow (count (sizes th.grid)) h
trials_below th h l = along (AllBelow (count (sizes th.grid))) th (below_step th) [] h tt (both (follow th [] h) (are_legal_after th.grid th.repeat [] (entries h)) l).0

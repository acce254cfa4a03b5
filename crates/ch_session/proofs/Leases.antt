-- What a client holds: what it fetched, and never two trials.
use Rattle.std.proofs.Common.{◌≡◌, ◌≢◌, ℕ, zero, suc, ◌+◌, ◌-◌, ◌<◌, ◌≤◌, Bool, true, false, cond, eqb, nat_lt, ◌&&◌, ◌||◌, not, List, [], ◌∷◌, ◌++◌, length, Option, Some, None, is_some, refl, sym, ap, ◌∙◌, subst, arith, ◌⊎◌, inl, inr, append_assoc, append-nil}
use Rattle.std.specs.List.{list_any}
use Rattle.ch_rank.specs.declared.outcome.Outcome.{Outcome}
use Rattle.ch_rank.specs.declared.outcome.Outcome.TheVariants.{Cost}
use Rattle.ch_rank.specs.Entries.{known}
use Rattle.ch_session.specs.declared.event.Event.{Event}
use Rattle.ch_session.specs.declared.event.Event.TheVariants.{Fetch, Report, Claim, Good, Refused, Leave}
use Rattle.ch_session.specs.History.{top, Theme, entries, game, trials, names_good, names_end, names_claim_by, holder_after, holder_from, is_claimed_by, is_built, is_held_by, is_free, holds, or_else, least, same_option, fetch_gives, first_trial, left_after, may_follow, is_legal}
use Rattle.ch_session.specs.Laws.{OneLease}
use Rattle.ch_session.proofs.Events.{any_more, entries_more, measured_append, holder_more, both, same_true, differ, which, least_none}
use Rattle.ch_session.proofs.KeptLeases.{gives_built}
use Rattle.ch_session.proofs.Legal.{Held, held_parts, held_whole, held_keep, legal_front, legal_last, points_keep, good_end, least_true, same_some, equal_of, not_both, not_true}

-- the trial that a fetch gave is held afterwards
pub fetched_held : (th : Theme) (h : List Event) (c t v : ℕ) → is_legal th (h ++ Fetch c (Some t) v ∷ []) ≡ true → Held th (h ++ Fetch c (Some t) v ∷ []) c t
fetched_held th h c t v l =
    let e : Event = Fetch c (Some t) v in
    let m = both (same_option (Some t) (fetch_gives th h c)) (eqb v 0) (legal_last th h e l) in
    let b = gives_built th h c t (same_some t (fetch_gives th h c) m.0) in
    let g = both (list_any (names_good t) h) (nat_lt t (trials th h) && not (is_some (known th.repeat (entries h) t))) b in
    let d = both (nat_lt t (trials th h)) (not (is_some (known th.repeat (entries h) t))) g.1 in
    record {
      good = any_more (names_good t) h e ∙ ap (λ (x : Bool). x || false) g.0;
      here = let p = points_keep th h (e ∷ []) l in omega (arith, less_of t (trials th h) d.0, p.long);
      none = ap (λ es. known th.repeat es t) (entries_more h e ∙ append-nil (entries h)) ∙ none_of (known th.repeat (entries h) t) d.1;
      holder = holder_more t None h e ∙ ap (λ (x : Bool). cond x (Some c) (holder_from t None h)) (same_true t);
    }
  where
    less_of : (x y : ℕ) → nat_lt x y ≡ true → x < y
    less_of x y h = grind (arith, Rattle.std.proofs.lemmas.Bool.Decides.nat_tests)

    none_of : (o : Option Outcome) → not (is_some o) ≡ true → o ≡ None
    none_of None q = refl
    none_of (Some o) q = absurd (cc)

-- whoever is named as the holder holds
abbrev AllHeld : Theme → List Event → Type 0
AllHeld th h = (c t : ℕ) → holder_from t None h ≡ Some c → Held th h c t

none_some : (c : ℕ) → None ≡ Some c → ⊥
none_some c e = absurd (cc)

held_next : (th : Theme) (h : List Event) (e : Event) → is_legal th (h ++ e ∷ []) ≡ true → AllHeld th h → AllHeld th (h ++ e ∷ [])
held_next th h (Fetch d None v) l all c t o = held_keep th h (Fetch d None v) c t l (all c t (sym (holder_more t None h (Fetch d None v)) ∙ o)) refl refl
held_next th h (Fetch d (Some u) v) l all c t o = at (which u t)
  where
    after : holder_after t (holder_from t None h) (Fetch d (Some u) v) ≡ Some c
    after = sym (holder_more t None h (Fetch d (Some u) v)) ∙ o

    at : (u ≡ t) ⊎ (u ≢ t) → Held th (h ++ Fetch d (Some u) v ∷ []) c t
    at (inl z) = let f = fetched_held th h d u v l in
        let w : Held th (h ++ Fetch d (Some u) v ∷ []) d t = subst (λ (x : ℕ). Held th (h ++ Fetch d (Some u) v ∷ []) d x) z f in
        let s : d ≡ c = same (sym w.holder ∙ o) in subst (λ (x : ℕ). Held th (h ++ Fetch d (Some u) v ∷ []) x t) s w
      where
        same : Some d ≡ Some c → d ≡ c
        same q = cc
    at (inr q) =
        let before : holder_from t None h ≡ Some c = sym (ap (λ (b : Bool). cond b (Some d) (holder_from t None h)) (differ u t q)) ∙ after in
        held_keep th h (Fetch d (Some u) v) c t l (all c t before) refl (ap (λ (b : Bool). cond b (Some d) (Some c)) (differ u t q))
held_next th h (Report d u j x f) l all c t o = at (which u t)
  where
    after : holder_after t (holder_from t None h) (Report d u j x f) ≡ Some c
    after = sym (holder_more t None h (Report d u j x f)) ∙ o

    at : (u ≡ t) ⊎ (u ≢ t) → Held th (h ++ Report d u j x f ∷ []) c t
    at (inl z) = absurd (none_some c (sym (ap (λ (b : Bool). cond b None (holder_from t None h)) (ap (λ (n : ℕ). eqb n t) z ∙ same_true t)) ∙ after))
    at (inr q) =
        let before : holder_from t None h ≡ Some c = sym (ap (λ (b : Bool). cond b None (holder_from t None h)) (differ u t q)) ∙ after in
        held_keep th h (Report d u j x f) c t l (all c t before) (ap (λ (b : Bool). cond b (Cost x ∷ []) []) (differ u t q)) (ap (λ (b : Bool). cond b None (Some c)) (differ u t q))
held_next th h (Claim b u) l all c t o = held_keep th h (Claim b u) c t l (all c t (sym (holder_more t None h (Claim b u)) ∙ o)) refl refl
held_next th h (Good b u) l all c t o = held_keep th h (Good b u) c t l (all c t (sym (holder_more t None h (Good b u)) ∙ o)) refl refl
held_next th h (Refused b u r) l all c t o = at (which u t)
  where
    k : Held th h c t
    k = all c t (sym (holder_more t None h (Refused b u r)) ∙ o)

    at : (u ≡ t) ⊎ (u ≢ t) → Held th (h ++ Refused b u r ∷ []) c t
    at (inl z) =
        let m = both (list_any (names_claim_by b u) h) (not (list_any (names_end u) h)) (legal_last th h (Refused b u r) l) in
        absurd (not_both (list_any (names_end t) h) (good_end h t k.good) (subst (λ (w : ℕ). list_any (names_end w) h ≡ false) z (not_true (list_any (names_end u) h) m.1)))
    at (inr q) = held_keep th h (Refused b u r) c t l k (ap (λ (b : Bool). cond b (top ∷ []) []) (differ u t q)) refl
held_next th h (Leave d u) l all c t o = at (which u t)
  where
    after : holder_after t (holder_from t None h) (Leave d u) ≡ Some c
    after = sym (holder_more t None h (Leave d u)) ∙ o

    at : (u ≡ t) ⊎ (u ≢ t) → Held th (h ++ Leave d u ∷ []) c t
    at (inl z) = absurd (none_some c (sym (ap (λ (b : Bool). cond b None (holder_from t None h)) (ap (λ (n : ℕ). eqb n t) z ∙ same_true t)) ∙ after))
    at (inr q) =
        let before : holder_from t None h ≡ Some c = sym (ap (λ (b : Bool). cond b None (holder_from t None h)) (differ u t q)) ∙ after in
        held_keep th h (Leave d u) c t l (all c t before) refl (ap (λ (b : Bool). cond b None (Some c)) (differ u t q))

none_at : (p : ℕ → Bool) (n t j : ℕ) → least p n t ≡ None → t ≤ j → j < t + n → p j ≡ false
none_at p zero t j e h k = absurd (omega arith)
none_at p (suc n) t j e h k = at (p t) refl e (which t j) (none_at p n (suc t) j)
  where
    at : (b : Bool) → p t ≡ b → cond b (Some t) (least p n (suc t)) ≡ None → (t ≡ j) ⊎ (t ≢ j) → (least p n (suc t) ≡ None → suc t ≤ j → j < suc t + n → p j ≡ false) → p j ≡ false
    at true q f w g = absurd (cc)
    at false q f (inl z) g = subst (λ (x : ℕ). p x ≡ false) z q
    at false q f (inr z) g = g f (omega (arith, z)) (omega arith)

-- a client is named as the holder of one trial at most
abbrev HoldsOne : List Event → Type 0
HoldsOne h = (c t u : ℕ) → holder_from t None h ≡ Some c → holder_from u None h ≡ Some c → t ≡ u

module _ (th : Theme) (h : List Event) (all : AllHeld th h) (one : HoldsOne h) where
  -- a fetch gives a client that holds a trial that one
  gives_held : (c t u : ℕ) → fetch_gives th h c ≡ Some t → holder_from u None h ≡ Some c → u ≡ t
  gives_held c t u g o = at (holds th h c) refl g
    where
      k : Held th h c u
      k = all c u o

      at : (x : Option ℕ) → holds th h c ≡ x → or_else x (first_trial th h (is_free th h)) ≡ Some t → u ≡ t
      at (Some w) q f =
          let z : w ≡ t = cc in
          let held = held_parts th h c w (least_true (is_held_by th h c) (trials th h) 0 w q) in
          one c u w o held.holder ∙ z
      at None q f = absurd (not_both (is_held_by th h c u) (held_whole th h c u k) (none_at (is_held_by th h c) (trials th h) 0 u q (omega arith) (omega (arith, k.here))))

-- who is named as the holder was so before, or fetched
from_before : (t : ℕ) (o : Option ℕ) (e : Event) (c : ℕ) → holder_after t o e ≡ Some c → (o ≡ Some c) ⊎ ((v : ℕ) × (e ≡ Fetch c (Some t) v))
from_before t o (Fetch d None v) c h = inl h
from_before t o (Fetch d (Some u) v) c h = at (eqb u t) refl h
  where
    at : (b : Bool) → eqb u t ≡ b → cond b (Some d) o ≡ Some c → (o ≡ Some c) ⊎ ((w : ℕ) × (Fetch d (Some u) v ≡ Fetch c (Some t) w))
    at true q k = let s : d ≡ c = cc in let z : u ≡ t = equal_of u t q in inr (v, λ i. Fetch (s i) (Some (z i)) v)
    at false q k = inl k
from_before t o (Report d u j x l) c h = at (eqb u t) h
  where
    at : (b : Bool) → cond b None o ≡ Some c → (o ≡ Some c) ⊎ ((w : ℕ) × (Report d u j x l ≡ Fetch c (Some t) w))
    at true k = absurd (cc)
    at false k = inl k
from_before t o (Claim b u) c h = inl h
from_before t o (Good b u) c h = inl h
from_before t o (Refused b u r) c h = inl h
from_before t o (Leave d u) c h = at (eqb u t) h
  where
    at : (b : Bool) → cond b None o ≡ Some c → (o ≡ Some c) ⊎ ((w : ℕ) × (Leave d u ≡ Fetch c (Some t) w))
    at true k = absurd (cc)
    at false k = inl k

one_next : (th : Theme) (h : List Event) (e : Event) → is_legal th (h ++ e ∷ []) ≡ true → AllHeld th h → HoldsOne h → HoldsOne (h ++ e ∷ [])
one_next th h e l all one c t u x y = at (from_before t (holder_from t None h) e c (sym (holder_more t None h e) ∙ x)) (from_before u (holder_from u None h) e c (sym (holder_more u None h e) ∙ y))
  where
    gave : (w v : ℕ) → e ≡ Fetch c (Some w) v → fetch_gives th h c ≡ Some w
    gave w v q = same_some w (fetch_gives th h c) (both (same_option (Some w) (fetch_gives th h c)) (eqb v 0) (subst (λ (f : Event). may_follow th h f ≡ true) q (legal_last th h e l))).0

    same : (v w : ℕ) → Fetch c (Some t) v ≡ Fetch c (Some u) w → t ≡ u
    same v w q = cc

    at : (holder_from t None h ≡ Some c) ⊎ ((v : ℕ) × (e ≡ Fetch c (Some t) v)) → (holder_from u None h ≡ Some c) ⊎ ((v : ℕ) × (e ≡ Fetch c (Some u) v)) → t ≡ u
    at (inl a) (inl b) = one c t u a b
    at (inl a) (inr b) = gives_held th h all one c u t (gave u b.0 b.1) a
    at (inr a) (inl b) = sym (gives_held th h all one c t u (gave t a.0 a.1) b)
    at (inr a) (inr b) = same a.0 b.0 (sym a.1 ∙ b.1)

leases_along : (th : Theme) (h more : List Event) → is_legal th (h ++ more) ≡ true → AllHeld th h → HoldsOne h → AllHeld th (h ++ more) × HoldsOne (h ++ more)
leases_along th h [] l all one = subst (λ (v : List Event). AllHeld th v × HoldsOne v) (sym (append-nil h)) (all, one)
leases_along th h (e ∷ more) l all one =
    let a : is_legal th ((h ++ e ∷ []) ++ more) ≡ true = subst (λ (v : List Event). is_legal th v ≡ true) (sym (append_assoc h (e ∷ []) more)) l in
    let s = legal_front th (h ++ e ∷ []) more a in
    subst (λ (v : List Event). AllHeld th v × HoldsOne v) (append_assoc h (e ∷ []) more) (leases_along th (h ++ e ∷ []) more a (held_next th h e s all) (one_next th h e s all one))

pub one_lease : (th : Theme) (h : List Event) → is_legal th h ≡ true → OneLease th h
one_lease th h l c t u x y =
    let k = leases_along th [] h l (λ d w o. absurd (none_some d o)) (λ d v w o p. absurd (none_some d o)) in
    let a = held_parts th h c t x in
    let b = held_parts th h c u y in
    k.1 c t u a.holder b.holder

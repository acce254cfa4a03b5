-- After its calls a client holds no trial, so that to leave the session adds nothing.
use Rattle.std.proofs.Common.{◌≡◌, ℕ, zero, suc, ◌+◌, ◌<◌, ◌≤◌, Bool, true, false, cond, eqb, List, [], ◌∷◌, ◌++◌, Option, Some, None, refl, sym, ap, ◌∙◌, subst, arith}
use Rattle.std.proofs.lemmas.Bool.Decides.{nat_tests}
use Rattle.ch_script.specs.declared.refusal.Refusal.{Refusal}
use Rattle.ch_session.specs.declared.event.Event.{Event}
use Rattle.ch_session.specs.declared.event.Event.TheVariants.{Fetch, Report, Claim, Good, Refused, Leave}
use Rattle.ch_session.specs.History.{Theme, holder_after, holder_from, is_held_by, holds, trials}
use Rattle.ch_session.specs.Replies.{leave_of}
use Rattle.ch_session.specs.Growth.{by}
use Rattle.ch_session.proofs.Events.{least_none}
use Rattle.ch_session.proofs.Legal.{held_parts}
use Rattle.ch_nest.specs.CostModel.{CostModel}
use Rattle.ch_conduct.specs.declared.report.How.{How}
use Rattle.ch_conduct.specs.declared.report.How.TheVariants.{Trial, Fresh, Kept}
use Rattle.ch_conduct.specs.Conduct.{Gained, Step, events_of, build_event, refusal_at, building, Answered, Turns, CallDoes, Calls, Conducted}
use Rattle.ch_conduct.specs.Meaning.{Judge}
use Rattle.ch_conduct.specs.Places.{events_by}
use Rattle.ch_conduct.specs.Conduct.Turns.{at_once, built}

module _ (c t : ℕ) where
  both_after : (o p : Option ℕ) (x : Event) → (o ≡ Some c → p ≡ Some c) → holder_after t o x ≡ Some c → holder_after t p x ≡ Some c
  both_after o p (Fetch d None v) r = r
  both_after o p (Fetch d (Some u) v) r = at (eqb u t)
    where
      at : (b : Bool) → cond b (Some d) o ≡ Some c → cond b (Some d) p ≡ Some c
      at true = λ e. e
      at false = r
  both_after o p (Report d u j x l) r = at (eqb u t)
    where
      at : (b : Bool) → cond b None o ≡ Some c → cond b None p ≡ Some c
      at true = λ e. e
      at false = r
  both_after o p (Leave d u) r = at (eqb u t)
    where
      at : (b : Bool) → cond b None o ≡ Some c → cond b None p ≡ Some c
      at true = λ e. e
      at false = r
  both_after o p (Claim b u) r = r
  both_after o p (Good b u) r = r
  both_after o p (Refused b u y) r = r

  other_after : (o p : Option ℕ) (x : Event) → eqb (by x) c ≡ false → (o ≡ Some c → p ≡ Some c) → holder_after t o x ≡ Some c → p ≡ Some c
  other_after o p (Fetch d None v) q r = r
  other_after o p (Fetch d (Some u) v) q r = at (eqb u t)
    where
      differs : (d c : ℕ) → eqb d c ≡ false → Some d ≡ Some c → ⊥
      differs d c q e = let s : d ≡ c = cc in grind (arith, nat_tests)

      at : (b : Bool) → cond b (Some d) o ≡ Some c → p ≡ Some c
      at true = λ e. absurd (differs d c q e)
      at false = r
  other_after o p (Report d u j x l) q r = at (eqb u t)
    where
      at : (b : Bool) → cond b None o ≡ Some c → p ≡ Some c
      at true = λ e. absurd (cc)
      at false = r
  other_after o p (Leave d u) q r = at (eqb u t)
    where
      at : (b : Bool) → cond b None o ≡ Some c → p ≡ Some c
      at true = λ e. absurd (cc)
      at false = r
  other_after o p (Claim b u) q r = r
  other_after o p (Good b u) q r = r
  other_after o p (Refused b u y) q r = r

  -- who holds a trial holds it by its own events
  held_own : (o p : Option ℕ) (h : List Event) → (o ≡ Some c → p ≡ Some c) → holder_from t o h ≡ Some c → holder_from t p (events_by c h) ≡ Some c
  held_own o p [] r e = r e
  held_own o p (x ∷ h) r e = at (eqb (by x) c) refl (held_own (holder_after t o x) (holder_after t p x) h (both_after o p x r) e) (λ q. held_own (holder_after t o x) p h (other_after o p x q r) e)
    where
      at : (b : Bool) → eqb (by x) c ≡ b → holder_from t (holder_after t p x) (events_by c h) ≡ Some c → (eqb (by x) c ≡ false → holder_from t p (events_by c h) ≡ Some c) → holder_from t p (cond b (x ∷ events_by c h) (events_by c h)) ≡ Some c
      at true q f g = f
      at false q f g = g q

  holder-append : (o : Option ℕ) (xs ys : List Event) → holder_from t o (xs ++ ys) ≡ holder_from t (holder_from t o xs) ys
  holder-append o [] ys = refl
  holder-append o (x ∷ xs) ys = holder-append (holder_after t o x) xs ys

  module _ (th : Theme) (judge : Judge) (patient : Bool) (machine : CostModel) (h : List Event) where
    answered_calm : (own : List Event) (j : ℕ) (how : How) (es : List Event) → Answered th judge c patient machine own h j how es → holder_from t None es ≡ None
    answered_calm own j (Trial u) es a = ap (holder_from t None) a.1 ∙ at (eqb u t)
      where
        at : (b : Bool) → cond b None (cond b (Some c) None) ≡ None
        at true = refl
        at false = refl
    answered_calm own j (Fresh v w) es a = ap (holder_from t None) a.0
    answered_calm own j (Kept v w) es a = absurd a

    build_calm : (o : Option ℕ) (b u : ℕ) (r : Option Refusal) → holder_after t o (build_event b u r) ≡ o
    build_calm o b u None = refl
    build_calm o b u (Some r) = refl

    turns_calm : (own : List Event) (j : ℕ) (how : How) (es : List Event) → Turns th judge c patient machine own h j how es → holder_from t None es ≡ None
    turns_calm own j how es (at_once a m) = answered_calm own j how es a
    turns_calm own j how es (built v u last q e a) =
        ap (holder_from t None) e ∙ (ap (λ (o : Option ℕ). holder_from t o last) (build_calm None (200 + c) u (refusal_at th judge h u)) ∙ answered_calm (own ++ building th judge c patient machine h v u) j how last a)

    call_calm : (before : Option How) (own : List Event) (j : ℕ) (how : How) (g : Gained) → CallDoes th judge c patient machine before own h j how g → holder_from t None g.events ≡ None
    call_calm before own j (Trial u) g d = turns_calm own j (Trial u) g.events d.1
    call_calm before own j (Fresh v w) g d = turns_calm own j (Fresh v w) g.events d.1
    call_calm before own j (Kept v w) g d = ap (holder_from t None) d.2

    calls_calm : (before : Option How) (own : List Event) (ss : List Step) → Calls th judge c patient machine before own h ss → holder_from t None (events_of ss) ≡ None
    calls_calm before own [] d = refl
    calls_calm before own (s ∷ ss) d =
        holder-append None s.gained.events (events_of ss) ∙ (ap (λ (o : Option ℕ). holder_from t o (events_of ss)) (call_calm before own s.call s.how s.gained d.0) ∙ calls_calm (Some s.how) (own ++ s.gained.events) ss d.1)

module _ (th : Theme) (judge : Judge) (c : ℕ) (patient : Bool) (machine : CostModel) where
  -- after its calls the client holds nothing in any history in which these are its events
  pub holds_none : (seen h : List Event) (lines : List (ℕ × How)) (own : List Event) (reads : List ℕ) → Conducted th judge c patient machine seen lines own reads → events_by c h ≡ own → holds th h c ≡ None
  holds_none seen h lines own reads d o = least_none (is_held_by th h c) (trials th h) 0 (λ t a b. at t (is_held_by th h c t) refl)
    where
      none_some : (o : Option ℕ) → o ≡ None → o ≡ Some c → ⊥
      none_some o p q = cc

      at : (t : ℕ) (b : Bool) → is_held_by th h c t ≡ b → b ≡ false
      at t false q = refl
      at t true q =
          let calm = calls_calm c t th judge patient machine seen None [] d.steps d.calls in
          let mine : holder_from t None h ≡ Some c = (held_parts th h c t q).holder in
          let held = held_own c t None None h (λ e. e) mine in
          absurd (none_some (holder_from t None (events_by c h)) (ap (holder_from t None) (o ∙ sym d.own_are) ∙ calm) held)

  pub leaves_nothing : (seen h : List Event) (lines : List (ℕ × How)) (own : List Event) (reads : List ℕ) → Conducted th judge c patient machine seen lines own reads → events_by c h ≡ own → leave_of c (holds th h c) ≡ []
  leaves_nothing seen h lines own reads d o = ap (leave_of c) (holds_none seen h lines own reads d o)
